-- Contents put into memory one after another.
use mathlib.Core.Path.{◌≡◌, refl, sym, ap, ap₂, subst, ◌∙◌}
use mathlib.Core.List.{List, [], ◌++◌, append_assoc, append-nil}
use Prim.Native.Nat.{ℕ, ◌+◌, ◌*◌, ◌≤◌, ◌<◌}
use native.Mathlib.Nat.{zero-add}
use native.Mathlib.Omega.{arith}
use borrow.Rule.Slice.PartMut.{put_mid}
use lib.ListN.{length, get_or, take, drop, length-append, length-drop, drop_of_length-le}
use lib.Seq.{length-take-le, take_at, drop_at, drop-drop}
use Rattle.std.specs.Int.{bytes_low_first}
use Rattle.files.specs.Bytes.{bytes_of, joined}
use Rattle.files.specs.Rooms.{covering}
use Rattle.files.proofs.Bytes.{bytes_length, joined_length}
use Rattle.writer.proofs.Contents.{low_first, joined_more}

-- a content stands at a place inside the memory, and all else is as it was
pub record Puts (content : List ℕ) (at : ℕ) (before after : List ℕ) : Type 0 where
  pub inside : at + length content ≤ length before
  pub there : after ≡ take at before ++ (content ++ drop (at + length content) before)

-- nothing at all
pub puts_none : (room : List ℕ) → Puts [] 0 room room
puts_none room = record { inside = omega arith; there = refl }

-- a part of the memory is written, or its beginning
pub puts_part : (room content : List ℕ) (at n : ℕ) → length content ≡ n → at + n ≤ length room → Puts content at room (put_mid at n room content)
puts_part room content at n e l = record {
  inside = omega arith;
  there = ap (λ back. take at room ++ (content ++ back)) (drop-drop n at room ∙ ap (λ m. drop (at + m) room) (sym e));
}

pub puts_front : (room content : List ℕ) (n : ℕ) → length content ≡ n → n ≤ length room → Puts content 0 room (content ++ drop n room)
puts_front room content n e l = record { inside = omega arith; there = ap (λ m. content ++ drop m room) (omega arith) }

-- a content that was put
module _ {content : List ℕ} {at : ℕ} {before after : List ℕ} (p : Puts content at before after) where
  pub puts_length : length after ≡ length before
  puts_length =
      ap length p.there
      ∙ omega (
        arith,
        p.inside,
        length-append (take at before) (content ++ drop (at + length content) before),
        length-append content (drop (at + length content) before),
        length-take-le at before (omega (arith, p.inside)),
        length-drop (at + length content) before,
      )

  -- one content behind another, together a third
  module _ {next : ℕ} {more whole last : List ℕ} (e : next ≡ at + length content) (both : content ++ more ≡ whole) (q : Puts more next after last) where
    front : length (take at before ++ content) ≡ next
    front = omega (arith, p.inside, length-append (take at before) content, length-take-le at before (omega (arith, p.inside)))

    split : after ≡ (take at before ++ content) ++ drop next before
    split = p.there ∙ sym (append_assoc (take at before) content (drop (at + length content) before)) ∙ ap (λ n. (take at before ++ content) ++ drop n before) (sym e)

    behind : drop (next + length more) after ≡ drop (at + length (content ++ more)) before
    behind =
        let far : next + length more ≡ at + length (content ++ more) = omega (arith, length-append content more) in
        sym (drop-drop (length more) next after)
        ∙ ap (drop (length more)) (ap (drop next) split ∙ drop_at (take at before ++ content) (drop next before) next front)
        ∙ drop-drop (length more) next before
        ∙ ap (λ n. drop n before) far

    pub puts_then : Puts whole at before last
    puts_then =
        subst (λ xs. Puts xs at before last) both
        record {
          inside = omega (arith, q.inside, puts_length, length-append content more);
          there =
              q.there
              ∙ ap₂ (λ xs ys. xs ++ (more ++ ys)) (ap (take next) split ∙ take_at (take at before ++ content) (drop next before) next front) behind
              ∙ append_assoc (take at before) content (more ++ drop (at + length (content ++ more)) before)
              ∙ ap (λ xs. take at before ++ xs) (sym (append_assoc content more (drop (at + length (content ++ more)) before)));
        }

-- a content at the beginning
pub puts_whole : {content room after : List ℕ} → Puts content 0 room after → after ≡ covering content room
puts_whole {content} {room} p = p.there ∙ ap (λ n. content ++ drop n room) (zero-add (length content))

-- .. and up to the end
pub puts_all : {content room after : List ℕ} → Puts content 0 room after → length room ≤ length content → after ≡ content
puts_all {content} {room} p l = puts_whole p ∙ ap (λ back. content ++ back) (drop_of_length-le room {i = length content} l) ∙ append-nil content

-- ---- words, eight bytes each
abbrev pub row_bytes : List ℕ → ℕ → List ℕ
row_bytes rows a = bytes_of 8 (get_or rows a 0)

pub rows_long : (rows : List ℕ) (k : ℕ) → length (joined k (row_bytes rows)) ≡ 8 * k
rows_long rows k = joined_length k 8 (row_bytes rows) (λ a. bytes_length 8 (get_or rows a 0))

-- one word more
pub words_more : (rows file₀ file : List ℕ) (k n : ℕ) (bytes : List ℕ) → Puts (joined k (row_bytes rows)) 0 file₀ file → length file₀ ≡ 8 * length rows
    → k < length rows → n ≡ 8 → bytes ≡ bytes_low_first 0 8 (get_or rows k 0) → Puts (joined (k + 1) (row_bytes rows)) 0 file₀ (put_mid (8 * k) n file bytes)
words_more rows file₀ file k n bytes p l m e is =
    let word : bytes ≡ row_bytes rows k = is ∙ low_first 7 (get_or rows k 0) in
    puts_then p (omega (arith, rows_long rows k)) (ap (λ b. joined k (row_bytes rows) ++ b) word ∙ joined_more k (row_bytes rows))
    (puts_part file bytes (8 * k) n (ap length word ∙ bytes_length 8 (get_or rows k 0) ∙ sym e) (omega (arith, puts_length p)))
