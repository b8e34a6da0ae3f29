-- Reading into lent memory: the fault that the first pass found, 26, or all that the second pass wrote.
use mathlib.Core.Path.{◌≡◌, refl, sym, ap, ◌∙◌}
use mathlib.Core.Bool.{Bool, true, false, ◌||◌}
use mathlib.Core.List.{List, [], ◌∷◌, ◌++◌}
use Prim.Native.Nat.{ℕ, ◌+◌, ◌*◌, ◌/◌, ◌≤◌, ◌<◌}
use native.Mathlib.Omega.{arith}
use borrow.Author.Tests.{lt-ltb, le-ltb}
use lib.Dec.{ltb}
use lib.ListN.{length, get_or, take, drop}
use Rattle.problem.specs.Tables.{Tables, listed}
use Rattle.problem.specs.Replies.{told, refusal_told, refusal_number, refusal_place}
use Rattle.problem.specs.declared.Refusal.{Refusal}
use Rattle.tables.proofs.Bools.{or_here, neither_or}
use Rattle.files.specs.Bytes.{Below}
use Rattle.files.specs.Reading.{Reading, fault, read, reading}
use Rattle.files.specs.Limits.{Whole}
use Rattle.files.specs.Rooms.{Rooms, rooms, too_small, covering}
use Rattle.files.specs.Reader.{refused_result, unless_small, result_of}
use Rattle.files.proofs.OneFile.{one_file}
use Rattle.scanning.specs.Replies.{reading_told}
use Rattle.scanning.specs.Scanning.{from_sizes}
use Rattle.loading.specs.Loading.{Fitting, Filled, unasked}
use Rattle.loading.proofs.Sure.{started}

or_there : (a b : Bool) → b ≡ true → (a || b) ≡ true
or_there true b e = refl
or_there false b e = e

-- ---- a fault
pub load_fault : (r : Reading) (why : Refusal) (m : Rooms) → refusal_told why ≡ reading_told r
    → refused_result (refusal_number why) (refusal_place why) m ≡ result_of unasked r m
load_fault (fault number place after) why m e =
    ap (λ w. record { answer = w; boats = 0; pair_bytes = 0; row_words = 0; rooms = m }) e
load_fault (read t) why m e = absurd (omega (arith, ap (λ w. w.number) e))

-- ---- a reading, by its lengths
told_read : (r : Reading) (a b c : ℕ) → told 0 (a ∷ b ∷ c ∷ []) ≡ reading_told r
    → (t : Tables) × (r ≡ read t) × (a ≡ length t.sizes) × (b ≡ listed t.pairs) × (c ≡ length t.rows)
told_read (fault number place after) a b c e = absurd (omega (arith, ap (λ w. w.number) e))
told_read (read t) a b c e =
    (t, refl, ap (λ w. get_or w.values 0 0) e, ap (λ w. get_or w.values 1 0) e, ap (λ w. get_or w.values 2 0) e)

module _ (file sizes₀ pairs₀ rows₀ : List ℕ) (small : Below 256 file) (boats pairs words : ℕ)
    (e : told 0 (boats ∷ pairs ∷ words ∷ []) ≡ reading_told (reading file)) where
  tables : Tables
  tables = (told_read (reading file) boats pairs words e).0

  record Lengths : Type 0 where
    is_read : reading file ≡ read tables
    sizes : boats ≡ length tables.sizes
    listed_are : pairs ≡ listed tables.pairs
    rows : words ≡ length tables.rows
    whole : Whole tables

  lengths : Lengths
  unfolding tables
  lengths =
      let r = told_read (reading file) boats pairs words e in
      record { is_read = r.1; sizes = r.2; listed_are = r.3; rows = r.4; whole = (one_file file r.0 small r.1).0 }

  memory : Rooms
  memory = rooms sizes₀ pairs₀ rows₀

  refused_26 : too_small memory tables ≡ true → refused_result 26 0 memory ≡ result_of unasked (reading file) memory
  refused_26 q = sym (ap (λ r. result_of unasked r memory) lengths.is_read ∙ ap (λ b. unless_small b unasked tables memory) q)

  pub room_sizes : length sizes₀ < boats → refused_result 26 0 (rooms sizes₀ pairs₀ rows₀) ≡ result_of unasked (reading file) (rooms sizes₀ pairs₀ rows₀)
  unfolding memory
  room_sizes l = refused_26 (or_here _ _ (lt-ltb (length sizes₀) (length tables.sizes) (omega (arith, lengths.sizes))))

  pub room_pairs : length pairs₀ / 2 < pairs → refused_result 26 0 (rooms sizes₀ pairs₀ rows₀) ≡ result_of unasked (reading file) (rooms sizes₀ pairs₀ rows₀)
  unfolding memory
  room_pairs l = refused_26 (or_there (ltb (length sizes₀) (length tables.sizes)) _ (or_here _ (ltb (length rows₀) (length tables.rows)) (lt-ltb (length pairs₀) (length tables.pairs) (omega (arith, lengths.listed_are, lengths.whole.two_bytes)))))

  pub room_rows : length rows₀ < words → refused_result 26 0 (rooms sizes₀ pairs₀ rows₀) ≡ result_of unasked (reading file) (rooms sizes₀ pairs₀ rows₀)
  unfolding memory
  room_rows l = refused_26 (or_there (ltb (length sizes₀) (length tables.sizes)) _ (or_there (ltb (length pairs₀) (length tables.pairs)) _ (lt-ltb (length rows₀) (length tables.rows) (omega (arith, lengths.rows)))))

  module _ (sizes_fit : boats ≤ length sizes₀) (pairs_fit : pairs ≤ length pairs₀ / 2) (rows_fit : words ≤ length rows₀) where
    pub front : 3 + boats ≤ length file
    front = omega (arith, lengths.sizes, (started file tables lengths.is_read).front)

    pub fitting : Fitting file boats (length pairs₀) (length rows₀)
    fitting = record {
      front = front;
      tables = tables;
      is_read = ap (from_sizes file) lengths.sizes ∙ (started file tables lengths.is_read).is_read;
      pairs_fit = omega (arith, lengths.listed_are, lengths.whole.two_bytes);
      rows_fit = omega (arith, lengths.rows);
    }

    pub loaded : (sizes pairs' rows : List ℕ) → sizes ≡ take boats (drop 3 file) ++ drop boats sizes₀ → Filled file boats pairs₀ rows₀ pairs' rows
        → record { answer = told 0 []; boats = boats; pair_bytes = 2 * pairs; row_words = words; rooms = rooms sizes pairs' rows }
        ≡ result_of unasked (reading file) (rooms sizes₀ pairs₀ rows₀)
    unfolding memory tables fitting
    loaded sizes pairs' rows s f =
        let enough : too_small memory tables ≡ false =
        neither_or _ _ (le-ltb (length sizes₀) (length tables.sizes) (omega (arith, lengths.sizes)))
        (neither_or _ _ (le-ltb (length pairs₀) (length tables.pairs) (omega (arith, lengths.listed_are, lengths.whole.two_bytes))) (le-ltb (length rows₀) (length tables.rows) (omega (arith, lengths.rows)))) in
        let written : sizes ≡ covering tables.sizes sizes₀ =
        s ∙ ap (λ n. take n (drop 3 file) ++ drop n sizes₀) lengths.sizes ∙ ap (λ l. l ++ drop (length tables.sizes) sizes₀) (sym (started file tables lengths.is_read).sizes_are) in
        let pair_bytes : 2 * pairs ≡ length tables.pairs = omega (arith, lengths.listed_are, lengths.whole.two_bytes) in
        (λ i. record {
          answer = told 0 [];
          boats = lengths.sizes i;
          pair_bytes = pair_bytes i;
          row_words = lengths.rows i;
          rooms = rooms (written i) (f.pairs_written tables fitting.is_read i) (f.rows_written tables fitting.is_read i);
        })
        ∙ sym (ap (λ r. result_of unasked r memory) lengths.is_read ∙ ap (λ b. unless_small b unasked tables memory) enough)
