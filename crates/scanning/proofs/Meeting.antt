-- What stands where a PR or the ED is due, by the bytes at their places in the file.
use mathlib.Core.Path.{◌≡◌, refl, sym, ap, ap₂, ◌∙◌}
use mathlib.Core.Bool.{Bool, true, false, not, ◌&&◌}
use mathlib.Core.List.{List, [], ◌∷◌, ◌++◌}
use Prim.Native.Nat.{ℕ, suc, ◌+◌, ◌-◌, ◌*◌, ◌≤◌, ◌<◌}
use native.Mathlib.Numerals.{add-one}
use native.Mathlib.Omega.{arith}
use borrow.Author.Tests.{ltb-true, ltb-false, le-leb, lt-leb, eq-eqb, ne_eqb}
use lib.Dec.{ltb, leb, eqb}
use lib.Pointwise.{pointwise}
use lib.ListN.{length, get_or, take, drop, length-append, length-drop, drop_of_length-le}
use lib.Seq.{length-take-le, drop-cons, drop-drop, get_or-take, get_or-drop}
use Rattle.std.proofs.Common.{Option, Result}
use Rattle.std.specs.Result.{IsErrAnd}
use Rattle.std.proofs.lemmas.Result.{err_from_is_err_and}
use Rattle.problem.specs.Tables.{Tables, boats, size, listed}
use Rattle.problem.specs.Replies.{refused, refusal_told}
use Rattle.problem.specs.declared.Problem.{Problem}
use Rattle.problem.specs.declared.Refusal.{Refusal}
use Rattle.files.specs.Bytes.{number, words_of}
use Rattle.files.specs.File.{SZ, PR, ED}
use Rattle.files.specs.Reading.{fault, read, sizes_due, pairs_due, Rest, next, refuse, over, end, refuse_if, sizes_rest, words_rest, pair_rest, end_rest, due, same, after_mark, marked, read_rest, read_from, sized, nothing, reading}
use Rattle.scanning.specs.Replies.{reading_told, contents_told}
use Rattle.scanning.specs.Scanning.{SoFar, GoesOn, Meets}
use Rattle.files.proofs.Bytes.{words_length}
use Rattle.files.proofs.Onward.{short, enough, Wants, after_bytes, goes_on_lem, ends, from_is}
use Rattle.files.proofs.Records.{one_byte}

module _ (file : List ℕ) where
  -- ---- so many bytes at a place: they are there, or the file ends
  pub here : (at k : ℕ) (rest : Rest) → Wants k rest → at + k ≤ length file
      → read_rest read_from at rest (drop at file) ≡ read_rest read_from (at + k) (after_bytes rest (take k (drop at file))) (drop (at + k) file)
  here at k (next n rest) e l =
      ap (λ m. read_rest read_from at (next m rest) (drop at file)) (sym e)
      ∙ enough read_from at k rest (drop at file) (omega (arith, length-drop at file))
      ∙ ap (read_rest read_from (at + k) (rest (take k (drop at file)))) (drop-drop k at file)
  here at k (refuse which width) e l = absurd e
  here at k (over stage t) e l = absurd e
  here at k (end t) e l = absurd e

  pub gone : (at k : ℕ) (rest : Rest) → Wants k rest → at ≤ length file → length file < at + k
      → reading_told (read_rest read_from at rest (drop at file)) ≡ refused 22 (length file)
  gone at k (next n rest) e l m =
      ap reading_told (short read_from at n rest (drop at file) (omega (arith, length-drop at file)))
      ∙ ap (refused 22) (omega (arith, length-drop at file))
  gone at k (refuse which width) e l m = absurd e
  gone at k (over stage t) e l m = absurd e
  gone at k (end t) e l m = absurd e

  -- ---- the bytes taken
  one_taken : (at : ℕ) → at < length file → take 1 (drop at file) ≡ get_or file at 0 ∷ []
  one_taken at l = ap (take 1) (drop-cons file at 0 l)

  one_number : (at : ℕ) → at < length file → number (take 1 (drop at file)) ≡ get_or file at 0
  one_number at l = ap number (one_taken at l) ∙ one_byte (get_or file at 0)

  pub two_taken : (at : ℕ) → at + 2 ≤ length file → take 2 (drop at file) ≡ get_or file at 0 ∷ get_or file (at + 1) 0 ∷ []
  two_taken at l =
      ap (take 2) (drop-cons file at 0 (omega arith) ∙ ap (λ bytes. get_or file at 0 ∷ bytes) (drop-cons file (suc at) 0 (omega arith)))
      ∙ ap (λ i. get_or file at 0 ∷ get_or file i 0 ∷ []) (sym (add-one at))

-- ---- the mark
pub mark_tested : (xs ys : List ℕ) → pointwise eqb xs ys ≡ same xs ys
unfolding same
mark_tested [] [] = refl
mark_tested [] (y ∷ ys) = refl
mark_tested (x ∷ xs) [] = refl
mark_tested (x ∷ xs) (y ∷ ys) = ap (λ b. eqb x y && b) (mark_tested xs ys)

-- ---- a fault that a `?` passes on
pub fault_told : (r : Result Problem Refusal) {found why : Refusal} → IsErrAnd r (λ e. e ≡ found) → found ≡ why → contents_told r ≡ refusal_told why
fault_told r e is = let p = err_from_is_err_and r e in rw (p.1, p.2, is)

pub fault_met : (file : List ℕ) (boats at pairs : ℕ) (r : Result (Option ℕ) Refusal) {found why : Refusal}
    → IsErrAnd r (λ e. e ≡ found) → found ≡ why
    → ((words : ℕ) (t : Tables) → SoFar file boats pairs words t → reading_told (read_from at pairs_due t (drop at file)) ≡ refusal_told why)
    → Meets file boats at pairs r
fault_met file boats at pairs r e is told_so = let p = err_from_is_err_and r e in rw (p.1, p.2, is) told_so

mark_pr : (mark : List ℕ) (t : Tables) → same mark PR ≡ true → after_mark mark (due pairs_due) t ≡ pair_rest t
unfolding after_mark
mark_pr mark t e = rw (e, after_mark)

mark_ed : (mark : List ℕ) (t : Tables) → same mark PR ≡ false → same mark ED ≡ true → after_mark mark (due pairs_due) t ≡ end_rest t
unfolding after_mark
mark_ed mark t d e = rw (d, e, after_mark)

mark_none : (mark : List ℕ) (t : Tables) → same mark PR ≡ false → same mark ED ≡ false → after_mark mark (due pairs_due) t ≡ refuse 21 2
unfolding after_mark
mark_none mark t d e = rw (d, e, after_mark)

refused_at : (at number width : ℕ) (bytes : List ℕ) → reading_told (read_rest read_from at (refuse number width) bytes) ≡ refused number (at - width)
unfolding read_rest
refused_at at number width bytes = refl

one_too_many : (at : ℕ) (t : Tables) (b : ℕ) (bytes : List ℕ) → read_rest read_from at (end t) (b ∷ bytes) ≡ fault 25 at (suc at)
unfolding read_rest
one_too_many at t b bytes = refl

module _ (file : List ℕ) (at n : ℕ) (inside : at ≤ length file) (front : 3 + n ≤ at) where
  -- the file ends before a mark
  pub no_mark : length file < at + 2 → (t : Tables) → reading_told (read_from at pairs_due t (drop at file)) ≡ refused 22 (length file)
  no_mark l t = ap reading_told (from_is at pairs_due t (drop at file)) ∙ gone file at 2 (marked pairs_due t) refl inside l

  module _ (two : at + 2 ≤ length file) where
    mark_here : (t : Tables) → read_from at pairs_due t (drop at file) ≡ read_rest read_from (at + 2) (after_mark (take 2 (drop at file)) (due pairs_due) t) (drop (at + 2) file)
    mark_here t = from_is at pairs_due t (drop at file) ∙ here file at 2 (marked pairs_due t) refl two

    pub unknown : same (take 2 (drop at file)) PR ≡ false → same (take 2 (drop at file)) ED ≡ false → (t : Tables)
        → reading_told (read_from at pairs_due t (drop at file)) ≡ refused 21 at
    unknown d e t =
        ap reading_told (mark_here t ∙ ap (λ r. read_rest read_from (at + 2) r (drop (at + 2) file)) (mark_none (take 2 (drop at file)) t d e))
        ∙ refused_at (at + 2) 21 2 (drop (at + 2) file)
        ∙ ap (refused 21) (omega arith)

    -- ---- a PR
    module _ (pr : same (take 2 (drop at file)) PR ≡ true) where
      pair_here : (t : Tables) → read_from at pairs_due t (drop at file) ≡ read_rest read_from (at + 2) (pair_rest t) (drop (at + 2) file)
      pair_here t = mark_here t ∙ ap (λ r. read_rest read_from (at + 2) r (drop (at + 2) file)) (mark_pr (take 2 (drop at file)) t pr)

      pub no_lower : length file < at + 3 → (t : Tables) → reading_told (read_from at pairs_due t (drop at file)) ≡ refused 22 (length file)
      unfolding pair_rest
      no_lower l t = ap reading_told (pair_here t) ∙ gone file (at + 2) 1 (pair_rest t) refl two (omega arith)

      module _ (three : at + 3 ≤ length file) (pairs words : ℕ) (t : Tables) (s : SoFar file n pairs words t) (l : ℕ) (is : l ≡ get_or file (at + 2) 0) where
        lower_is : number (take 1 (drop (at + 2) file)) ≡ l
        lower_is = one_number file (at + 2) (omega arith) ∙ sym is

        boats_are_lem : boats t ≡ n
        boats_are_lem = ap length s.sizes_are ∙ length-take-le n (drop 3 file) (omega (arith, length-drop 3 file))

        lower_here : read_from at pairs_due t (drop at file)
            ≡ read_rest read_from (at + 2 + 1) (refuse_if (leb n l) 23 1 (words_rest t (take 1 (drop (at + 2) file)) (size t.sizes l))) (drop (at + 2 + 1) file)
        unfolding pair_rest
        lower_here =
            pair_here t
            ∙ here file (at + 2) 1 (pair_rest t) refl (omega arith)
            ∙ ap₂ (λ m k. read_rest read_from (at + 2 + 1) (refuse_if (leb m k) 23 1 (words_rest t (take 1 (drop (at + 2) file)) (size t.sizes k))) (drop (at + 2 + 1) file))
            boats_are_lem lower_is

        pub no_boat : n ≤ l → reading_told (read_from at pairs_due t (drop at file)) ≡ refused 23 (at + 2)
        no_boat h =
            ap reading_told
            (lower_here
            ∙ ap (λ b. read_rest read_from (at + 2 + 1) (refuse_if b 23 1 (words_rest t (take 1 (drop (at + 2) file)) (size t.sizes l))) (drop (at + 2 + 1) file)) (le-leb n l h))
            ∙ refused_at (at + 2 + 1) 23 1 (drop (at + 2 + 1) file)
            ∙ ap (refused 23) (omega arith)

        module _ (there : l < n) (slots : ℕ) (are : slots ≡ get_or file (3 + l) 0) where
          slots_are : size t.sizes l ≡ slots
          slots_are = ap (λ sizes. get_or sizes l 0) s.sizes_are ∙ get_or-take n (drop 3 file) l 0 there ∙ get_or-drop 3 file l 0 ∙ sym are

          words_here : read_from at pairs_due t (drop at file)
              ≡ read_rest read_from (at + 2 + 1) (words_rest t (take 1 (drop (at + 2) file)) slots) (drop (at + 2 + 1) file)
          words_here =
              lower_here
              ∙ ap₂ (λ b k. read_rest read_from (at + 2 + 1) (refuse_if b 23 1 (words_rest t (take 1 (drop (at + 2) file)) k)) (drop (at + 2 + 1) file)) (lt-leb n l there) slots_are

          pub no_words : length file < at + (4 + 8 * slots) → reading_told (read_from at pairs_due t (drop at file)) ≡ refused 22 (length file)
          unfolding words_rest
          no_words short = by (ltb (length file) (at + 2 + 1 + 1)) refl
            where
              by : (b : Bool) → ltb (length file) (at + 2 + 1 + 1) ≡ b → reading_told (read_from at pairs_due t (drop at file)) ≡ refused 22 (length file)
              by true e =
                  ap reading_told words_here ∙ gone file (at + 2 + 1) 1 (words_rest t (take 1 (drop (at + 2) file)) slots) refl (omega arith) (ltb-true _ _ e)
              by false e =
                  let four : at + 2 + 1 + 1 ≤ length file = ltb-false _ _ e in
                  ap reading_told (words_here ∙ here file (at + 2 + 1) 1 (words_rest t (take 1 (drop (at + 2) file)) slots) refl four)
                  ∙ gone file (at + 2 + 1 + 1) (8 * slots)
                  (after_bytes (words_rest t (take 1 (drop (at + 2) file)) slots) (take 1 (drop (at + 2 + 1) file))) refl four (omega arith)

          pub pair_met : at + (4 + 8 * slots) ≤ length file → GoesOn file n at pairs slots words t
          unfolding words_rest
          pair_met long =
              let third : at + 2 + 1 ≡ at + 3 = omega arith in
              let fourth : at + 2 + 1 + 1 ≡ at + 4 = omega arith in
              let lower : List ℕ = take 1 (drop (at + 2) file) in
              let higher : List ℕ = take 1 (drop (at + 2 + 1) file) in
              let content : List ℕ = take (8 * slots) (drop (at + 2 + 1 + 1) file) in
              let one : length lower ≡ 1 = length-take-le 1 (drop (at + 2) file) (omega (arith, length-drop (at + 2) file)) in
              let other : length higher ≡ 1 = length-take-le 1 (drop (at + 2 + 1) file) (omega (arith, length-drop (at + 2 + 1) file)) in
              let grown : Tables = record { sizes = t.sizes; pairs = t.pairs ++ (lower ++ higher); rows = t.rows ++ words_of slots content } in
              record {
                grown = grown;
                so_far = record {
                  sizes_are = s.sizes_are;
                  pair_bytes = omega (arith, s.pair_bytes, length-append t.pairs (lower ++ higher), length-append lower higher);
                  row_words = omega (arith, s.row_words, length-append t.rows (words_of slots content), words_length slots content);
                };
                pairs_are = ap (λ bytes. t.pairs ++ bytes) (ap₂ ◌++◌ (one_taken file (at + 2) (omega arith)) (one_taken file (at + 2 + 1) (omega arith) ∙ ap (λ i. get_or file i 0 ∷ []) third));
                rows_are = ap (λ i. t.rows ++ words_of slots (take (8 * slots) (drop i file))) fourth;
                on =
                    words_here
                    ∙ here file (at + 2 + 1) 1 (words_rest t lower slots) refl (omega arith)
                    ∙ here file (at + 2 + 1 + 1) (8 * slots) (after_bytes (words_rest t lower slots) higher) refl (omega arith)
                    ∙ goes_on_lem read_from (at + 2 + 1 + 1 + 8 * slots) pairs_due grown (drop (at + 2 + 1 + 1 + 8 * slots) file)
                    ∙ ap (λ place. read_from place pairs_due grown (drop place file)) (omega arith);
              }

    -- ---- the ED
    module _ (pr : same (take 2 (drop at file)) PR ≡ false) (ed : same (take 2 (drop at file)) ED ≡ true) where
      end_here : (t : Tables) → read_from at pairs_due t (drop at file) ≡ read_rest read_from (at + 2) (end_rest t) (drop (at + 2) file)
      end_here t = mark_here t ∙ ap (λ r. read_rest read_from (at + 2) r (drop (at + 2) file)) (mark_ed (take 2 (drop at file)) t pr ed)

      pub no_count : length file < at + 4 → (t : Tables) → reading_told (read_from at pairs_due t (drop at file)) ≡ refused 22 (length file)
      unfolding end_rest
      no_count l t = ap reading_told (end_here t) ∙ gone file (at + 2) 2 (end_rest t) refl two (omega arith)

      module _ (four : at + 4 ≤ length file) (pairs words : ℕ) (t : Tables) (s : SoFar file n pairs words t) (count : ℕ)
          (is : count ≡ get_or file (at + 2) 0 + 256 * get_or file (at + 3) 0) where
        count_is : number (take 2 (drop (at + 2) file)) ≡ count
        unfolding number
        count_is =
            let third : at + 2 + 1 ≡ at + 3 = omega arith in
            ap number (two_taken file (at + 2) (omega arith)) ∙ omega (arith, ap (λ i. get_or file i 0) third)

        listed_are_lem : listed t.pairs ≡ pairs
        listed_are_lem = omega (arith, s.pair_bytes)

        count_here : read_from at pairs_due t (drop at file) ≡ read_rest read_from (at + 2 + 2) (refuse_if (not (eqb count pairs)) 24 2 (end t)) (drop (at + 2 + 2) file)
        unfolding end_rest
        count_here =
            end_here t
            ∙ here file (at + 2) 2 (end_rest t) refl (omega arith)
            ∙ ap₂ (λ c m. read_rest read_from (at + 2 + 2) (refuse_if (not (eqb c m)) 24 2 (end t)) (drop (at + 2 + 2) file)) count_is listed_are_lem

        counted : (b : Bool) → eqb count pairs ≡ b
            → read_from at pairs_due t (drop at file) ≡ read_rest read_from (at + 2 + 2) (refuse_if (not b) 24 2 (end t)) (drop (at + 2 + 2) file)
        counted b e = count_here ∙ ap (λ c. read_rest read_from (at + 2 + 2) (refuse_if (not c) 24 2 (end t)) (drop (at + 2 + 2) file)) e

        pub wrong_count : (count ≡ pairs → ⊥) → reading_told (read_from at pairs_due t (drop at file)) ≡ refused 24 (at + 2)
        wrong_count z =
            ap reading_told (counted false (ne_eqb count pairs z)) ∙ refused_at (at + 2 + 2) 24 2 (drop (at + 2 + 2) file) ∙ ap (refused 24) (omega arith)

        module _ (right : count ≡ pairs) where
          pub more_bytes : at + 4 < length file → reading_told (read_from at pairs_due t (drop at file)) ≡ refused 25 (at + 4)
          more_bytes l =
              ap reading_told
              (counted true (eq-eqb count pairs right)
              ∙ ap (read_rest read_from (at + 2 + 2) (end t)) (drop-cons file (at + 2 + 2) 0 (omega arith))
              ∙ one_too_many (at + 2 + 2) t (get_or file (at + 2 + 2) 0) (drop (suc (at + 2 + 2)) file))
              ∙ ap (refused 25) (omega arith)

          pub end_met : length file ≤ at + 4 → read_from at pairs_due t (drop at file) ≡ read t
          end_met l =
              counted true (eq-eqb count pairs right)
              ∙ ap (read_rest read_from (at + 2 + 2) (end t)) (drop_of_length-le file {i = at + 2 + 2} (omega arith))
              ∙ ends read_from (at + 2 + 2) t

-- ---- the SZ
module _ (file : List ℕ) where
  pub no_first_mark : length file < 2 → reading_told (reading file) ≡ refused 22 (length file)
  unfolding reading
  no_first_mark l = ap reading_told (from_is 0 sizes_due nothing file) ∙ gone file 0 2 (marked sizes_due nothing) refl (omega arith) (omega arith)

  module _ (two : 2 ≤ length file) where
    first_mark : reading file ≡ read_rest read_from 2 (after_mark (take 2 file) (due sizes_due) nothing) (drop 2 file)
    unfolding reading
    first_mark = from_is 0 sizes_due nothing file ∙ here file 0 2 (marked sizes_due nothing) refl (omega arith)

    pub no_sizes_mark : same (take 2 file) SZ ≡ false → reading_told (reading file) ≡ refused 21 0
    unfolding after_mark
    no_sizes_mark e =
        ap reading_told (first_mark ∙ ap (λ b. read_rest read_from 2 (elim b [ true ↦ sizes_rest nothing | false ↦ refuse 21 2 ]) (drop 2 file)) e)
        ∙ refused_at 2 21 2 (drop 2 file)

    module _ (sz : same (take 2 file) SZ ≡ true) where
      sizes_here : reading file ≡ read_rest read_from 2 (sizes_rest nothing) (drop 2 file)
      unfolding after_mark
      sizes_here = first_mark ∙ ap (λ b. read_rest read_from 2 (elim b [ true ↦ sizes_rest nothing | false ↦ refuse 21 2 ]) (drop 2 file)) sz

      pub no_number : length file < 3 → reading_told (reading file) ≡ refused 22 (length file)
      unfolding sizes_rest
      no_number l = ap reading_told sizes_here ∙ gone file 2 1 (sizes_rest nothing) refl two (omega arith)

      module _ (three : 3 ≤ length file) (n : ℕ) (is : n ≡ get_or file 2 0) where
        number_here : reading file ≡ read_rest read_from 3 (after_bytes (sizes_rest nothing) (take 1 (drop 2 file))) (drop 3 file)
        unfolding sizes_rest
        number_here = sizes_here ∙ here file 2 1 (sizes_rest nothing) refl (omega arith)

        pub no_sizes : length file < 3 + n → reading_told (reading file) ≡ refused 22 (length file)
        unfolding sizes_rest
        no_sizes l =
            ap reading_told number_here
            ∙ gone file 3 n (after_bytes (sizes_rest nothing) (take 1 (drop 2 file))) (is ∙ sym (one_number file 2 (omega arith))) three l

        pub sizes_met : 3 + n ≤ length file → reading file ≡ read_from (3 + n) pairs_due (sized (take n (drop 3 file))) (drop (3 + n) file)
        unfolding sizes_rest
        sizes_met l =
            number_here
            ∙ here file 3 n (after_bytes (sizes_rest nothing) (take 1 (drop 2 file))) (is ∙ sym (one_number file 2 (omega arith))) l
            ∙ goes_on_lem read_from (3 + n) pairs_due (sized (take n (drop 3 file))) (drop (3 + n) file)
