-- A turn of a sweep: pair k, with the live slots v of its higher boat.
use mathlib.Core.Path.{◌≡◌, sym, ap, ◌∙◌}
use mathlib.Core.Logic.{◌⊎◌, inl, inr}
use mathlib.Core.Bool.{Bool, true, false, ◌&&◌}
use mathlib.Core.List.{List, ◌++◌}
use Prim.Native.Nat.{ℕ, suc, ◌+◌, ◌-◌, ◌^◌, ◌≤◌, ◌<◌}
use native.Mathlib.Omega.{arith}
use native.Mathlib.Nat.{le_refl, le_of_lt, lt_of_le_of_lt, lt_of_lt_of_le, eq-or-lt_of_le}
use lib.Dec.{ltb}
use lib.ListN.{length, take, set}
use lib.Seq.{take-take, get_or-set_same, get_or-set_other}
use lib.Bits.{bit_and, and_le_l}
use lib.Count.{ones}
use Rattle.std.specs.Prelude.{Some, None}
use Rattle.problem.specs.Tables.{Tables, boats, size, listed, lower, higher, place, is_listed, start, row, bit}
use Rattle.problem.specs.declared.Allowance.TheVariants.{Checks}
use Rattle.problem.proofs.Places.{allowed_listed}
use Rattle.problem.proofs.Starts.{start_next}
use Rattle.events.specs.Events.{Event, trials, checks}
use Rattle.events.specs.declared.Counts.{Counts}
use Rattle.events.specs.Counts.{checks_counted, with_all_checks, Makes, StopsIn}
use Rattle.events.proofs.Counting.{trials_append}
use Rattle.events.proofs.Leading.{makes_append, makes_eq, makes_checks, checks_stop, stops_behind, stops_before, stops_eq, stops_count, length_made, checks_made}
use Rattle.methods.specs.Choices.{choices, may_stand}
use Rattle.methods.specs.FC.{Swept}
use Rattle.methods.specs.ByPlan.{is_open, open_checks, open_stays, open_sweep}
use Rattle.methods.proofs.Shown.{choices_size, may_allowed}
use Rattle.words.specs.Places.{prev_at, live_at, blames}
use Rattle.words.specs.Layout.{word, ChangedOnly, first_pair, left_at}
use Rattle.words.proofs.Bits.{bit_and_lem}
use Rattle.words.proofs.Firsts.{first_same}
use Rattle.words.proofs.Pairs.{pair_listed, place_is, pair_is, higher_rise}
use Rattle.words.proofs.Chains.{prev_own}
use Rattle.words.proofs.ChangedOnly.{only_trans, only_set}
use Rattle.words.proofs.Frames.{same_before}
use Rattle.live_words.specs.Lives.{left_word}
use Rattle.live_words.proofs.Live.{left_stays}
use Rattle.live_words.proofs.Words.{and_swap}
use Rattle.sweeping.specs.Sweeps.{Sweepable, sweep_of, SweepsEmpty}
use Rattle.sweeping.proofs.Ones.{none_set, one_set, no_ones, zero_ones}
use Rattle.sweeping.proofs.Sweeping.{behind, behind_more, sweep_past, at_stays, at_emptied, at_checks, checks_trials, checks_are}
use Rattle.sweeping.proofs.Along.{Along, plan_long, gap}

-- from the words w₀ and the counts m, the words are w and the counts n; pair k, whose row is word `at`, is one of boat i's
pub record Turn (t : Tables) (w₀ : List ℕ) (i a : ℕ) (m : Counts) (w : List ℕ) (k at : ℕ) (n : Counts) : Type 0 where
  pub given : Sweepable t w₀ i a
  pub along : Along t w₀ i a m w k at n
  pub more : k < first_pair t.pairs (suc i)
  pub fits : word w (word w (prev_at k)) < 2 ^ 64

module _ {t : Tables} {w₀ : List ℕ} {i a : ℕ} {m : Counts} {w : List ℕ} {k at : ℕ} {n : Counts} (u : Turn t w₀ i a m w k at n) where
  abbrev j : ℕ
  j = higher t.pairs k

  is : k < listed t.pairs
  is = pair_listed t.pairs u.given.sane.rising i k u.along.from u.more

  low : lower t.pairs k ≡ i
  low = first_same t.pairs u.given.sane.rising i k u.along.from u.more

  later : i < j
  later = omega (arith, low, u.given.sane.lower_first k is)

  named : j < boats t
  named = u.given.sane.boats_named k is

  next_row : start t.sizes t.pairs (k + 1) ≡ start t.sizes t.pairs k + size t.sizes i
  next_row = start_next t.sizes t.pairs k ∙ ap (λ (l : ℕ). start t.sizes t.pairs k + size t.sizes l) low

  is_listed_lem : is_listed t.pairs (length (take i w₀)) j ≡ true
  is_listed_lem = rw (plan_long u.given) (pair_is t.pairs u.given.sane.rising i k u.along.from u.more)

  -- the pairs that are left have higher boats from j on
  left_from : (q : ℕ) → k ≤ q → q < first_pair t.pairs (suc i) → j ≤ higher t.pairs q
  left_from q l h = by (eq-or-lt_of_le l)
    where
      by : (k ≡ q) ⊎ (k < q) → j ≤ higher t.pairs q
      by (inl e) = rw e (le_refl _)
      by (inr g) = le_of_lt (higher_rise t.pairs u.given.sane.rising i k q u.along.from g h)

  reached : sweep_of t (take i w₀) a ≡ behind u.along.made (open_sweep t (take i w₀) a j (boats t - j))
  reached =
      u.along.split
      ∙ ap (behind u.along.made)
      (sweep_past t (take i w₀) a u.along.next j (u.along.ahead k (le_refl k) u.more) (le_of_lt named)
      (λ x lx hx. gap u.given u.along x lx (λ q lq hq. lt_of_lt_of_le hx (left_from q lq hq))))

  -- ---- the live word
  abbrev v : ℕ
  v = word w (word w (prev_at k))

  pub before_word : word w (prev_at k) ≡ left_at t.pairs i j
  before_word = u.along.only.others (prev_at k) (inl (omega (arith, u.along.few))) ∙ prev_own t u.given.sane u.given.chained i k u.along.from u.more

  unwritten : v ≡ left_word t w₀ i j
  unwritten = ap (word w) before_word ∙ left_stays t w₀ w u.given.sane i (same_before u.along.only (le_refl _)) i j (le_refl i) named

  live_bits : (b : ℕ) → b < 64 → bit v b ≡ (is_open t (take i w₀) j b && ltb b (choices t j))
  live_bits b lb =
      rw (unwritten, choices_size t j)
      (rw (take-take i i w₀ (le_refl i)) at (u.given.lives i j b (le_refl i) (le_of_lt later) named lb))

  few : choices t j ≤ 64
  few = rw (choices_size t j) (u.given.sane.few_slots j named)

  -- its checks
  abbrev due : List Event
  due = open_checks t (take i w₀) a j 0 (choices t j)

  no_trials : trials due ≡ 0
  no_trials = checks_trials t (take i w₀) a j 0 (choices t j)

  as_many : checks due ≡ ones v
  as_many = checks_are t (take i w₀) a v j few u.fits live_bits

  -- ---- the checks are not within their allowance
  pub runs_out_lem : checks_counted n (ones v) ≡ None → StopsIn m (sweep_of t (take i w₀) a).checks Checks (n.most_checks - m.checks) (with_all_checks n)
  runs_out_lem e =
      let z = at_checks t (take i w₀) a j named is_listed_lem in
      let s : (sweep_of t (take i w₀) a).checks ≡ u.along.made ++ (due ++ z.0) =
      ap (λ (r : Swept). r.checks) reached ∙ ap (λ (es : List Event). u.along.made ++ es) z.1 in
      let c = checks_stop n u.along.makes.fits due (ones v) no_trials as_many e in
      let d : length u.along.made + (n.most_checks - n.checks) ≡ n.most_checks - m.checks =
      omega (arith, length_made u.along.makes u.along.none, checks_made u.along.makes, u.along.makes.fits.checks_fit) in
      stops_eq (sym s) (stops_count d (stops_behind u.along.makes (stops_before z.0 c)))

  -- ---- what stays
  row_bit : (b : ℕ) → bit (word t.rows at) b ≡ may_stand t i a j b
  row_bit b =
      let e : place t.pairs i j ≡ k = place_is t.pairs u.given.sane.rising i k u.along.from u.more in
      let l : is_listed t.pairs i j ≡ true = rw (plan_long u.given) at is_listed_lem in
      ap (λ (q : ℕ). bit (word t.rows q) b) u.along.place ∙ sym (may_allowed t i a j b ∙ allowed_listed t i a j b l ∙ ap (λ (q : ℕ). bit (row t q a) b) e)

  abbrev stays : ℕ
  stays = bit_and v (word t.rows at)

  stays_bit : (b : ℕ) → bit stays b ≡ (bit v b && may_stand t i a j b)
  stays_bit b = bit_and_lem v (word t.rows at) b ∙ ap (λ (y : Bool). bit v b && y) (row_bit b)

  open_bits : (b : ℕ) → b < 64 → bit stays b ≡ ((is_open t (take i w₀) j b && may_stand t (length (take i w₀)) a j b) && ltb b (choices t j))
  open_bits b lb =
      rw (plan_long u.given)
      (stays_bit b ∙ ap (λ (y : Bool). y && may_stand t i a j b) (live_bits b lb) ∙ and_swap (is_open t (take i w₀) j b) (ltb b (choices t j)) (may_stand t i a j b))

  stays_fits : stays < 2 ^ 64
  stays_fits = lt_of_le_of_lt (and_le_l v (word t.rows at)) u.fits

  none_stay : ones stays ≡ 0 → open_stays t (take i w₀) a j ≡ false
  unfolding open_stays
  none_stay z = none_set (choices t j) stays (λ b. is_open t (take i w₀) j b && may_stand t (length (take i w₀)) a j b) few stays_fits open_bits (no_ones 64 stays stays_fits z)

  some_stay : (ones stays ≡ 0 → ⊥) → open_stays t (take i w₀) a j ≡ true
  unfolding open_stays
  some_stay nz = one_set (choices t j) stays (λ b. is_open t (take i w₀) j b && may_stand t (length (take i w₀)) a j b) few stays_fits open_bits (λ z. nz (ap ones z ∙ zero_ones))

  -- ---- the word written
  pub in_words : 4096 + k < length w
  in_words = omega (arith, is, u.given.sane.few_pairs, u.along.only.long, u.given.room)

  pub still_only : (s : ℕ) → ChangedOnly (live_at (first_pair t.pairs i)) blames w₀ (set w (4096 + k) s)
  still_only s = only_trans u.along.only (only_set w (4096 + k) s (omega (arith, u.along.from)) (omega (arith, is, u.given.sane.few_pairs)))

  -- ---- the checks are within their allowance
  module _ (x : Counts) (e : checks_counted n (ones v) ≡ Some x) where
    made : Makes m (u.along.made ++ due) x
    made = makes_append u.along.makes (makes_checks n x u.along.makes.fits due (ones v) no_trials as_many e)

    -- nothing stays
    emptied_at : ones stays ≡ 0 → SweepsEmpty t (take i w₀) a m k x
    emptied_at z =
        let s = reached ∙ ap (behind u.along.made) (at_emptied t (take i w₀) a j named is_listed_lem (none_stay z)) in
        record {
          pair = is;
          own = rw (plan_long u.given) low;
          emptied = ap (λ (r : Swept). r.emptied) s;
          makes = makes_eq (sym (ap (λ (r : Swept). r.checks) s)) made;
        }

    -- something stays
    passed_by : (step : ℕ) → step ≡ size t.sizes i → (ones stays ≡ 0 → ⊥) → Along t w₀ i a m (set w (4096 + k) stays) (k + 1) (at + step) x
    passed_by step es nz =
        record {
          from = omega (arith, u.along.from);
          few = u.along.few;
          place = omega (arith, next_row, u.along.place);
          in_rows = u.along.in_rows;
          before = λ q lo hi. rw (get_or-set_other w (4096 + k) (512 + q) stays 0 (omega (arith, u.along.few))) (u.along.before q lo hi);
          next = suc j;
          within = named;
          gone = λ q lo hi. gone_more q lo (eq-or-lt_of_le (omega arith));
          ahead = λ q lo hi. higher_rise t.pairs u.given.sane.rising i k q u.along.from (omega arith) hi;
          stay = λ q b lo hi lb. stay_more q b lo lb (eq-or-lt_of_le (omega arith));
          only = still_only stays;
          made = u.along.made ++ due;
          none = omega (arith, trials_append u.along.made due, u.along.none, no_trials);
          split = reached
              ∙ ap (behind u.along.made) (at_stays t (take i w₀) a j named is_listed_lem (some_stay nz))
              ∙ behind_more u.along.made due (open_sweep t (take i w₀) a (suc j) (boats t - suc j));
          makes = made;
        }
      where
        gone_more : (q : ℕ) → first_pair t.pairs i ≤ q → (q ≡ k) ⊎ (q < k) → higher t.pairs q < suc j
        gone_more q lo (inl h) = rw h (le_refl _)
        gone_more q lo (inr h) = omega (arith, u.along.gone q lo h, u.along.ahead k (le_refl k) u.more)

        stay_more : (q b : ℕ) → first_pair t.pairs i ≤ q → b < 64 → (q ≡ k) ⊎ (q < k) →
            bit (word (set w (4096 + k) stays) (live_at q)) b ≡ (bit (left_word t w₀ i (higher t.pairs q)) b && may_stand t i a (higher t.pairs q) b)
        stay_more q b lo lb (inl h) =
            rw h
            (ap (λ (x : ℕ). bit x b) (get_or-set_same w (4096 + k) stays 0 in_words) ∙ stays_bit b ∙ ap (λ (x : ℕ). bit x b && may_stand t i a j b) unwritten)
        stay_more q b lo lb (inr h) =
            ap (λ (x : ℕ). bit x b) (get_or-set_other w (4096 + k) (4096 + q) stays 0 (omega arith))
            ∙ u.along.stay q b lo h lb

    -- .. as the code reads the rows
    module _ {rows : List ℕ} (same : rows ≡ t.rows) where
      pub empties : ones (bit_and v (word rows at)) ≡ 0 → SweepsEmpty t (take i w₀) a m k x
      empties z = emptied_at (rw same at z)

      pub goes_on_lem : (step : ℕ) → step ≡ size t.sizes i → (ones (bit_and v (word rows at)) ≡ 0 → ⊥) →
          Along t w₀ i a m (set w (4096 + k) (bit_and v (word rows at))) (k + 1) (at + step) x
      goes_on_lem step es nz = rw same (passed_by step es (rw same at nz))
