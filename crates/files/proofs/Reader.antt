-- What the reader and the desk's question leave, once for all that may be asked of the tables as read.
use mathlib.Core.Path.{◌≡◌, refl, ap, ap₂, ◌∙◌}
use mathlib.Core.Bool.{Bool, true, false}
use mathlib.Core.List.{List}
use Prim.Native.Nat.{ℕ, ◌≤◌}
use native.Mathlib.Omega.{arith}
use borrow.Author.Tests.{ltb-false}
use lib.ListN.{length, get_or, drop, length-append, length-drop}
use Rattle.problem.specs.Tables.{Tables}
use Rattle.problem.specs.Replies.{Told, refused}
use Rattle.tables.proofs.Bools.{or_neither}
use Rattle.files.specs.Reading.{Reading, fault, read, reading}
use Rattle.files.specs.Rooms.{Rooms, too_short, too_small, covering}
use Rattle.files.specs.Reader.{Result, refused_result, standing_result, unless_small, result_of}
use Rattle.files.specs.Promises.{OfFile, Untouched, SameLengths, TooSmall, Stands}
use Rattle.files.proofs.FirstFault.{fault_is}

module _ (ask : Tables → Told) (file : List ℕ) (m : Rooms) where
  -- 26 at place 0, and nothing is written
  pub small_26 : TooSmall file m → result_of ask (reading file) m ≡ refused_result 26 0 m
  small_26 s = ap (λ r. result_of ask r m) s.is_read ∙ ap (λ b. unless_small b ask s.t m) s.short

  pub read_stands : (t : Tables) → reading file ≡ read t → too_small m t ≡ false → result_of ask (reading file) m ≡ standing_result ask t m
  read_stands t e q = ap (λ r. result_of ask r m) e ∙ ap (λ b. unless_small b ask t m) q

  -- what is asked gives no number of the file
  module _ (other : (t : Tables) → OfFile (ask t).number → ⊥) where
    pub of_file_untouched : OfFile (result_of ask (reading file) m).answer.number → Untouched m (result_of ask (reading file) m)
    of_file_untouched = by (reading file)
      where
        small : (t : Tables) (b : Bool) → OfFile (unless_small b ask t m).answer.number → Untouched m (unless_small b ask t m)
        small t true o = record { rooms = refl; boats = refl; pair_bytes = refl; row_words = refl }
        small t false o = absurd (other t o)

        by : (r : Reading) → OfFile (result_of ask r m).answer.number → Untouched m (result_of ask r m)
        by (fault number place after) o = record { rooms = refl; boats = refl; pair_bytes = refl; row_words = refl }
        by (read t) o = small t (too_small m t) o

    -- 21 to 25 are those of the first fault in the bytes
    pub refused_fault : (number place : ℕ) → number ≤ 25 → 21 ≤ number → (result_of ask (reading file) m).answer ≡ refused number place
        → (after : ℕ) × (reading file ≡ fault number place after)
    refused_fault number place hi lo = by (reading file) refl
      where
        small : (t : Tables) (b : Bool) → (unless_small b ask t m).answer ≡ refused number place → ⊥
        small t true e = omega (arith, ap (λ w. w.number) e)
        small t false e = other t (omega (arith, ap (λ w. w.number) e))

        by : (r : Reading) → reading file ≡ r → (result_of ask r m).answer ≡ refused number place → (after : ℕ) × (reading file ≡ fault number place after)
        by (fault which at after) e q =
            let n : which ≡ number = omega (arith, ap (λ w. w.number) q) in
            let p : at ≡ place = ap (λ w. get_or w.values 0 0) q in
            (after, e ∙ ap₂ (λ k l. fault k l after) n p)
        by (read t) e q = absurd (small t (too_small m t) q)

    pub small_for_26 : (result_of ask (reading file) m).answer.number ≡ 126 → TooSmall file m
    small_for_26 = by (reading file) refl
      where
        small : (t : Tables) → reading file ≡ read t → (b : Bool) → too_small m t ≡ b → (unless_small b ask t m).answer.number ≡ 126 → TooSmall file m
        small t e true q n = record { t = t; is_read = e; short = q }
        small t e false q n = absurd (other t (omega (arith, n)))

        by : (r : Reading) → reading file ≡ r → (result_of ask r m).answer.number ≡ 126 → TooSmall file m
        by (fault number place after) e n = absurd (omega (arith, n, (fault_is file number place after e).upto))
        by (read t) e n = small t e (too_small m t) refl n

  -- any other number: the tables stand
  pub other_stands : (OfFile (result_of ask (reading file) m).answer.number → ⊥) → Stands ask file m (result_of ask (reading file) m)
  other_stands = by (reading file) refl
    where
      small : (t : Tables) → reading file ≡ read t → (b : Bool) → too_small m t ≡ b → (OfFile (unless_small b ask t m).answer.number → ⊥)
          → Stands ask file m (unless_small b ask t m)
      small t e true q n = absurd (n (omega arith))
      small t e false q n = record { t = t; is_read = e; enough = q; is = refl }

      by : (r : Reading) → reading file ≡ r → (OfFile (result_of ask r m).answer.number → ⊥) → Stands ask file m (result_of ask r m)
      by (fault number place after) e n =
          let f = fault_is file number place after e in
          absurd (n (omega (arith, f.from), omega (arith, f.upto)))
      by (read t) e n = small t e (too_small m t) refl n

-- ---- no part of the lent memory changes its length
covering_length : (content room : List ℕ) → too_short room content ≡ false → length (covering content room) ≡ length room
covering_length content room e =
    omega (arith, ltb-false (length room) (length content) e, length-append content (drop (length content) room), length-drop (length content) room)

pub lengths_kept : (ask : Tables → Told) (r : Reading) (m : Rooms) → SameLengths m (result_of ask r m)
lengths_kept ask (fault number place after) m = record { sizes = refl; pairs = refl; rows = refl }
lengths_kept ask (read t) m = by (too_small m t) refl
  where
    by : (b : Bool) → too_small m t ≡ b → SameLengths m (unless_small b ask t m)
    by true q = record { sizes = refl; pairs = refl; rows = refl }
    by false q =
        let first = or_neither (too_short m.sizes t.sizes) _ q in
        let others = or_neither (too_short m.pairs t.pairs) _ first.1 in
        record {
          sizes = covering_length t.sizes m.sizes first.0;
          pairs = covering_length t.pairs m.pairs others.0;
          rows = covering_length t.rows m.rows others.1;
        }

-- ---- a question that says what another says, where that refuses
pub refused_alike : (one other : Tables → Told) → ((t : Tables) → 100 ≤ (other t).number → one t ≡ other t) → (r : Reading) (m : Rooms)
    → 100 ≤ (result_of other r m).answer.number → (result_of one r m).answer ≡ (result_of other r m).answer
refused_alike one other alike (fault number place after) m l = refl
refused_alike one other alike (read t) m l = by (too_small m t) l
  where
    by : (b : Bool) → 100 ≤ (unless_small b other t m).answer.number → (unless_small b one t m).answer ≡ (unless_small b other t m).answer
    by true l = refl
    by false l = alike t l

-- ---- what is asked of the tables has no part in what is written
pub as_asked : (one other : Tables → Told) (r : Reading) (m : Rooms) → (result_of one r m).rooms ≡ (result_of other r m).rooms
as_asked one other (fault number place after) m = refl
as_asked one other (read t) m = by (too_small m t)
  where
    by : (b : Bool) → (unless_small b one t m).rooms ≡ (unless_small b other t m).rooms
    by true = refl
    by false = refl
