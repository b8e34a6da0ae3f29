-- What both passes leave, as the reader and the desk's question ask about it.
use mathlib.Core.Path.{◌≡◌, refl, sym, ap, ◌∙◌}
use mathlib.Core.Bool.{Bool, true, false}
use mathlib.Core.List.{List, []}
use Prim.Native.Nat.{ℕ, ◌≤◌}
use native.Mathlib.Omega.{arith}
use lib.ListN.{length, take, drop, length-append}
use lib.Seq.{take_at}
use Rattle.std.specs.Prelude.{Result as Judged}
use Rattle.std.specs.Result.{IsErrAnd}
use Rattle.std.proofs.lemmas.Result.{err_from_is_err_and}
use Rattle.problem.specs.Tables.{Tables, tables, boats as boats_of}
use Rattle.problem.specs.Replies.{Told, told, refusal_number, refusal_place, refusal_told}
use Rattle.problem.specs.declared.Refusal.{Refusal}
use Rattle.questions.specs.Replies.{judged_told}
use Rattle.files.specs.Reading.{Reading, fault, read}
use Rattle.files.specs.Rooms.{Rooms, too_small, covering, holding}
use Rattle.files.specs.Reader.{Result, refused_result, unless_small, result_of}
use Rattle.loading.specs.Loading.{unasked}

abbrev result : (answer : Told) (boats pair_bytes row_words : ℕ) → Rooms → Result
result answer boats pair_bytes row_words m = record { answer = answer; boats = boats; pair_bytes = pair_bytes; row_words = row_words; rooms = m }

-- ---- a refusal is one, whatever is asked of tables that are read
pub refused_loaded : (ask : Tables → Told) (r : Reading) (m₀ : Rooms) (why : Refusal) (m : Rooms)
    → refused_result (refusal_number why) (refusal_place why) m ≡ result_of unasked r m₀ → refused_result (refusal_number why) (refusal_place why) m ≡ result_of ask r m₀
refused_loaded ask (fault number place after) m₀ why m e = e
refused_loaded ask (read t) m₀ why m e = by (too_small m₀ t) e
  where
    by : (b : Bool) → refused_result (refusal_number why) (refusal_place why) m ≡ unless_small b unasked t m₀
        → refused_result (refusal_number why) (refusal_place why) m ≡ unless_small b ask t m₀
    by true e = e
    by false e = absurd (omega (arith, ap (λ x. x.answer.number) e))

-- a `?` passes it on
pub passed_on : (r : Judged Bool Refusal) (why : Refusal) → IsErrAnd r (λ e. e ≡ why) → judged_told r ≡ refusal_told why
passed_on r why is = let p = err_from_is_err_and r is in rw (p.1, p.2)

-- ---- tables that stand in the lent memory
pub record Standing (r : Reading) (m₀ : Rooms) (boats pair_bytes row_words : ℕ) (m : Rooms) : Type 0 where
  pub t : Tables
  pub is_read : r ≡ read t
  pub fits : too_small m₀ t ≡ false
  pub boats_are : boats ≡ boats_of t
  pub pairs_are : pair_bytes ≡ length t.pairs
  pub rows_are : row_words ≡ length t.rows
  pub holds : m ≡ holding t m₀

pub standing : (r : Reading) (m₀ : Rooms) (boats pair_bytes row_words : ℕ) (m : Rooms)
    → result (told 0 []) boats pair_bytes row_words m ≡ result_of unasked r m₀ → Standing r m₀ boats pair_bytes row_words m
standing (fault number place after) m₀ boats pair_bytes row_words m e = absurd (omega (arith, ap (λ x. x.answer.number) e))
standing (read t) m₀ boats pair_bytes row_words m e = by (too_small m₀ t) refl e
  where
    by : (b : Bool) → too_small m₀ t ≡ b → result (told 0 []) boats pair_bytes row_words m ≡ unless_small b unasked t m₀
        → Standing (read t) m₀ boats pair_bytes row_words m
    by true q e = absurd (omega (arith, ap (λ x. x.answer.number) e))
    by false q e = record {
      t = t;
      is_read = refl;
      fits = q;
      boats_are = ap (λ x. x.boats) e;
      pairs_are = ap (λ x. x.pair_bytes) e;
      rows_are = ap (λ x. x.row_words) e;
      holds = ap (λ x. x.rooms) e;
    }

-- what stands first is what was written
first_is : (content room part : List ℕ) (k : ℕ) → k ≡ length content → part ≡ covering content room → take k part ≡ content
first_is content room part k e q = ap (take k) q ∙ take_at content (drop (length content) room) k (sym e)

within : (content room part : List ℕ) (k : ℕ) → k ≡ length content → part ≡ covering content room → k ≤ length part
within content room part k e q = omega (arith, ap length q, length-append content (drop (length content) room))

module _ (r : Reading) (m₀ : Rooms) (boats pair_bytes row_words : ℕ) (m : Rooms) (s : Standing r m₀ boats pair_bytes row_words m) where
  pub all_there : (boats ≤ length m.sizes) × (pair_bytes ≤ length m.pairs) × (row_words ≤ length m.rows)
  all_there = (
    within s.t.sizes m₀.sizes m.sizes boats s.boats_are (ap (λ x. x.sizes) s.holds),
    within s.t.pairs m₀.pairs m.pairs pair_bytes s.pairs_are (ap (λ x. x.pairs) s.holds),
    within s.t.rows m₀.rows m.rows row_words s.rows_are (ap (λ x. x.rows) s.holds),
  )

  abbrev first : Tables
  first = tables (take boats m.sizes) (take pair_bytes m.pairs) (take row_words m.rows)

  first_tables : first ≡ s.t
  first_tables = λ i. tables
      (first_is s.t.sizes m₀.sizes m.sizes boats s.boats_are (ap (λ x. x.sizes) s.holds) i)
      (first_is s.t.pairs m₀.pairs m.pairs pair_bytes s.pairs_are (ap (λ x. x.pairs) s.holds) i)
      (first_is s.t.rows m₀.rows m.rows row_words s.rows_are (ap (λ x. x.rows) s.holds) i)

  -- what is asked of them is asked of the tables as read
  pub asked : (ask : Tables → Told) (answer : Told) → answer ≡ ask first → result answer boats pair_bytes row_words m ≡ result_of ask r m₀
  asked ask answer e =
      (λ i. result ((e ∙ ap ask first_tables) i) (s.boats_are i) (s.pairs_are i) (s.rows_are i) (s.holds i))
      ∙ sym (ap (λ x. result_of ask x m₀) s.is_read ∙ ap (λ b. unless_small b ask s.t m₀) s.fits)
