-- A visit that looks ahead, over the words: the slots that it gives up, what its sweeps leave in the words, and how it ends.
use mathlib.Core.Path.{◌≡◌, refl, sym, ap, ◌∙◌, subst}
use mathlib.Core.Bool.{Bool, true, false, ◌&&◌, ◌||◌, and-true}
use mathlib.Core.List.{List, [], ◌∷◌, ◌++◌}
use Prim.Native.Nat.{ℕ, zero, suc, ◌+◌, ◌-◌, ◌^◌, ◌≤◌, ◌<◌}
use native.Mathlib.Omega.{arith}
use native.Mathlib.Decide.{dec_lt, dec_le}
use native.Mathlib.Nat.{le_refl, le_of_lt}
use native.Mathlib.Numerals.{add-one}
use lib.Bits.{bit_or}
use lib.Dec.{ltb}
use lib.ListN.{length, take, length-append}
use lib.Seq.{length-take-le, take-take}
use borrow.Author.Tests.{lt-ltb}
use Rattle.std.specs.Prelude.{Some, None}
use Rattle.problem.specs.Tables.{Tables, boats, size, listed, lower, higher, bit}
use Rattle.problem.specs.Sane.{Sane}
use Rattle.problem.specs.declared.Allowance.{Allowance}
use Rattle.problem.specs.declared.Allowance.TheVariants.{Checks, Trials}
use Rattle.events.specs.Events.{Event, trial}
use Rattle.events.specs.declared.Counts.{Counts}
use Rattle.events.specs.Counts.{trial_counted, Makes, StopsIn}
use Rattle.events.proofs.Leading.{makes_none, makes_append, makes_trial, trial_stops, stops_behind}
use Rattle.methods.specs.ByPlan.{is_open, blamers_of, ahead_by_plan}
use Rattle.methods.proofs.Shown.{choices_size}
use Rattle.words.specs.Places.{live_at, prev_at, blames, used, blame_at}
use Rattle.words.specs.Layout.{word, ChangedOnly, first_pair, left_at, Chained}
use Rattle.words.specs.Sets.{set_words}
use Rattle.words.proofs.Firsts.{first_le}
use Rattle.words.proofs.Lefts.{left_before}
use Rattle.words.proofs.Bits.{bit_or_lem}
use Rattle.words.proofs.Chains.{last_before_lem}
use Rattle.words.proofs.ChangedOnly.{only_trans, only_take}
use Rattle.words.proofs.Frames.{same_before, same_after, chained_stays}
use Rattle.visits.specs.declared.Backward.{Backward}
use Rattle.visits.specs.declared.Backward.TheVariants.{OneBack, BySets}
use Rattle.visits.specs.Visits.{Standing, steps_over, state, ComesTo, Passes, Spends, RunsOut}
use Rattle.visits.proofs.Ends.{come_more}
use Rattle.visits.proofs.Visiting.{in_choices, step_dead}
use Rattle.live_words.specs.Lives.{left_word, Lives, Stays, LostAt, Blames}
use Rattle.live_words.specs.Slots.{NextLive}
use Rattle.live_words.specs.Kept.{BlamesKept, KeptAhead}
use Rattle.live_words.proofs.Live.{lives_stay, blames_stay, lives_pass, lost_blamers}
use Rattle.sweeping.specs.declared.Swept.{Swept}
use Rattle.sweeping.specs.declared.Swept.TheVariants.{Clear, Emptied, OutOfChecks as OutOf}
use Rattle.sweeping.specs.Sweeps.{Sweepable, sweep_of, SweepsTo}
use Rattle.sweeping.proofs.Sweeping.{sweep_few}
use Rattle.looking_ahead.proofs.Trials.{ahead_live, slot_passes, slot_fails, slot_tries}

-- what a visit of boat i finds in the words w
pub record Ready (backward : Backward) (t : Tables) (w : List ℕ) (i : ℕ) : Type 0 where
  pub sane : Sane t
  pub boat : i < boats t
  pub room : used ≤ length w
  pub kept : KeptAhead backward t w i

-- the words that it has reached from w
abbrev pub Reached : Tables → (w : List ℕ) → (i : ℕ) → (v : List ℕ) → Type 0
Reached t w i v = ChangedOnly (live_at (first_pair t.pairs i)) blames w v

pub ready_there : {backward : Backward} {t : Tables} {w : List ℕ} {i : ℕ} {m : Counts} → Standing t w i m → KeptAhead backward t w i → Ready backward t w i
ready_there s k = record { sane = s.sane; boat = s.boat; room = s.room; kept = k }

module _ {backward : Backward} {t : Tables} {w : List ℕ} {i : ℕ} (ready : Ready backward t w i) where
  -- the place of the boat's live word
  pub among : word w (448 + i) < 8192
  among = omega (arith, last_before_lem t ready.sane ready.kept.chained i ready.boat, ready.sane.few_pairs)

  pub is_live_word : word w (word w (448 + i)) ≡ left_word t w i i
  is_live_word = ap (word w) (ready.kept.chained.last i ready.boat)

  pub short : i ≤ length w
  short = omega (arith, ready.sane.few_boats, ready.boat, ready.room)

  long : length (take i w) ≡ i
  long = length-take-le i w short

  module _ {v : List ℕ} (o : Reached t w i v) where
    kept_take : take i v ≡ take i w
    kept_take = only_take o i (omega (arith, ready.sane.few_boats, ready.boat)) short

    kept_lives : Lives t v (take i w) i
    kept_lives = lives_stay t w v ready.sane (take i w) i (same_before o (le_refl _)) ready.kept.lives

    pub kept_chained : Chained t v
    kept_chained = chained_stays t w v ready.sane (same_before o (omega arith)) ready.kept.chained

    pub sweepable : (a : ℕ) → a < size t.sizes i → Sweepable t v i a
    sweepable a la =
        record {
          sane = ready.sane;
          boat = ready.boat;
          slot = la;
          room = omega (arith, o.long, ready.room);
          chained = kept_chained;
          lives = rw kept_take kept_lives;
        }

-- ---- the slots given up: from slot a₀ with the set s₀ and the counts m on
module _ (t : Tables) (w : List ℕ) (i : ℕ) (backward : Backward) (a₀ s₀ : ℕ) (m : Counts) where
  abbrev pub Comes : (a s : ℕ) → Counts → Type 0
  Comes a s k =
      ComesTo t (steps_over t (ahead_by_plan t) backward) (take i w) a₀ (state backward (set_words w i s₀)) m a (state backward (set_words w i s)) k

  -- slot a is due: those before it are given up, as far as the boat has slots
  pub record DueAt (a s : ℕ) (k : Counts) : Type 0 where
    pub last : ℕ
    pub here : a < size t.sizes i → last ≡ a
    pub none : size t.sizes i ≤ a → size t.sizes i ≤ last
    pub comes : Comes last s k

  -- before slot a, with the set s and the counts k, the words being v
  pub record Going (v : List ℕ) (a s : ℕ) (k : Counts) : Type 0 where
    pub kept : Reached t w i v
    pub below : s < 2 ^ i
    pub due : DueAt a s k
    pub live : a < 64 → bit (left_word t w i i) a ≡ true

module _ {backward : Backward} {t : Tables} {w : List ℕ} {i : ℕ} (ready : Ready backward t w i) where
  -- a slot is live as its bit in the boat's last live word says
  told : (a : ℕ) → a < size t.sizes i → (ahead_by_plan t).live tt (take i w) a ≡ bit (left_word t w i i) a
  told a la =
      ahead_live t (take i w) a
      ∙ ap (λ (n : ℕ). is_open t (take i w) n a) (long ready)
      ∙ sym (ready.kept.lives i i a (le_refl i) (le_refl i) ready.boat small ∙ open_only)
    where
      small : a < 64
      small = omega (arith, ready.sane.few_slots i ready.boat)

      open_only : (is_open t (take i (take i w)) i a && ltb a (size t.sizes i)) ≡ is_open t (take i w) i a
      open_only = rw (take-take i i w (le_refl i), lt-ltb a (size t.sizes i) la, and-true (is_open t (take i w) i a))

module _ {backward : Backward} {t : Tables} {w : List ℕ} {i : ℕ} (ready : Ready backward t w i) (a₀ s₀ : ℕ) (m : Counts) where
  passed_over : (a s : ℕ) {k : Counts} → a < size t.sizes i → bit (left_word t w i i) a ≡ false → Comes t w i backward a₀ s₀ m a s k → Comes t w i backward a₀ s₀ m (a + 1) s k
  passed_over a s {k} la e c =
      rw add-one
      (come_more t _ c (step_dead t (ahead_by_plan t) backward w i (short ready) ready.boat a s la (told ready a la ∙ e)) (makes_none k c.makes.fits))

  -- so many dead slots from slot a on
  dead_more : (a s n : ℕ) {k : Counts} → a + n ≤ size t.sizes i → ((b : ℕ) → a ≤ b → b < a + n → bit (left_word t w i i) b ≡ false) →
      Comes t w i backward a₀ s₀ m a s k → Comes t w i backward a₀ s₀ m (a + n) s k
  dead_more a s zero l dead c = let z : a + 0 ≡ a = omega arith in rw z c
  dead_more a s (suc n) l dead c =
      let z : a + suc n ≡ a + n + 1 = omega arith in
      rw z (passed_over (a + n) s (omega arith) (dead (a + n) (omega arith) (omega arith)) (dead_more a s n (omega arith) (λ b lo hi. dead b lo (omega arith)) c))

  -- up to slot b, or to the end of the slots
  dead_to : (a s b : ℕ) {k : Counts} → a ≤ size t.sizes i → a ≤ b → ((c : ℕ) → a ≤ c → c < b → bit (left_word t w i i) c ≡ false) →
      Comes t w i backward a₀ s₀ m a s k → DueAt t w i backward a₀ s₀ m b s k
  dead_to a s b {k} la le dead c = by (dec_lt b (size t.sizes i))
    where
      to : (d : ℕ) → a ≤ d → d ≤ size t.sizes i → d ≤ b → Comes t w i backward a₀ s₀ m d s k
      to d l h g = let z : a + (d - a) ≡ d = omega arith in rw z at (dead_more a s (d - a) (omega arith) (λ x lo hi. dead x lo (omega arith)) c)

      by : Dec (b < size t.sizes i) → DueAt t w i backward a₀ s₀ m b s k
      by (yes y) = record { last = b; here = λ _. refl; none = λ n. absurd (omega arith); comes = to b le (le_of_lt y) (le_refl b) }
      by (no n) = record { last = size t.sizes i; here = λ y. absurd (omega arith); none = λ _. le_refl _; comes = to (size t.sizes i) la (le_refl _) (omega arith) }

  -- up to the next live slot
  pub due_next : (a s b : ℕ) {k : Counts} → NextLive (left_word t w i i) a b → Comes t w i backward a₀ s₀ m a s k → DueAt t w i backward a₀ s₀ m b s k
  due_next a s b {k} n c = by (dec_le a (size t.sizes i))
    where
      by : Dec (a ≤ size t.sizes i) → DueAt t w i backward a₀ s₀ m b s k
      by (yes y) = dead_to a s b y n.onward n.dead c
      by (no y) = record { last = a; here = λ l. absurd (omega (arith, n.onward)); none = λ _. omega arith; comes = c }

  pub on_to : (v : List ℕ) (a s b : ℕ) {k : Counts} → Reached t w i v → s < 2 ^ i → Comes t w i backward a₀ s₀ m a s k → NextLive (word w (word w (448 + i))) a b →
      Going t w i backward a₀ s₀ m v b s k
  on_to v a s b o l c n =
      let n' : NextLive (left_word t w i i) a b = rw (is_live_word ready) at n in
      record { kept = o; below = l; due = due_next a s b n' c; live = n'.alive }

  -- no slot is left
  pub none_due : (a s : ℕ) {k : Counts} → size t.sizes i ≤ a → DueAt t w i backward a₀ s₀ m a s k →
      Spends t (steps_over t (ahead_by_plan t) backward) (take i w) a₀ (state backward (set_words w i s₀)) m (state backward (set_words w i s)) k
  none_due a s l d = record { last = d.last; none = rw (long ready, choices_size t i) (d.none l); comes = d.comes }

-- ---- at a slot that is due, below the boat's slots: it is live
pub record TriedAt (t : Tables) (w : List ℕ) (i : ℕ) (backward : Backward) (a₀ s₀ : ℕ) (m : Counts) (v : List ℕ) (a s : ℕ) (k : Counts) : Type 0 where
  pub ready : Ready backward t w i
  pub kept : Reached t w i v
  pub slot : a < size t.sizes i
  pub live : bit (left_word t w i i) a ≡ true
  pub comes : Comes t w i backward a₀ s₀ m a s k

module _ {t : Tables} {w : List ℕ} {i : ℕ} {backward : Backward} {a₀ s₀ : ℕ} {m : Counts} {v : List ℕ} {a s : ℕ} {k : Counts} where
  pub tried : Ready backward t w i → a < size t.sizes i → Going t w i backward a₀ s₀ m v a s k → TriedAt t w i backward a₀ s₀ m v a s k
  tried r la g =
      record {
        ready = r;
        kept = g.kept;
        slot = la;
        live = g.live (omega (arith, r.sane.few_slots i r.boat));
        comes = subst (λ (b : ℕ). Comes t w i backward a₀ s₀ m b s k) (g.due.here la) g.due.comes;
      }

  module _ (c : TriedAt t w i backward a₀ s₀ m v a s k) where
    tells : (ahead_by_plan t).live tt (take i w) a ≡ true
    tells = told c.ready a c.slot ∙ c.live

    -- the run ends inside the step
    stopped : {which : Allowance} {made : ℕ} {x : Counts} → StopsIn k (trial i a ∷ (sweep_of t (take i w) a).checks) which made x →
        RunsOut t (steps_over t (ahead_by_plan t) backward) (take i w) a₀ (state backward (set_words w i s₀)) m which a (state backward (set_words w i s)) made x
    stopped e =
        let z = slot_tries t backward w i (short c.ready) c.ready.boat a s c.slot tells in
        record {
          reached = k;
          comes = c.comes;
          stops = record {
            inside = in_choices t (ahead_by_plan t) backward w i (short c.ready) c.ready.boat a s c.slot;
            events = trial i a ∷ (sweep_of t (take i w) a).checks;
            plan = z.0;
            choice = z.1;
            after = z.2;
            steps = z.3;
            stops = e;
          };
        }

    pub no_trial : trial_counted k ≡ None →
        RunsOut t (steps_over t (ahead_by_plan t) backward) (take i w) a₀ (state backward (set_words w i s₀)) m Trials a (state backward (set_words w i s)) 0 k
    no_trial e = stopped (trial_stops k c.comes.makes.fits i a _ e)

    pub trial_made : {x : Counts} → trial_counted k ≡ Some x → Makes k (trial i a ∷ []) x
    trial_made {x} e = makes_trial k x c.comes.makes.fits i a e

    pub sweepable_lem : Sweepable t v i a
    sweepable_lem = sweepable c.ready c.kept a c.slot

-- ---- after the sweep of slot a, which went from the words v to the words v'
pub record AfterSweep (t : Tables) (w : List ℕ) (i : ℕ) (backward : Backward) (a₀ s₀ : ℕ) (m : Counts) (a s : ℕ) (k n : Counts) (v v' : List ℕ) (r : Swept) : Type 0 where
  pub tried : TriedAt t w i backward a₀ s₀ m v a s k
  pub counted : Makes k (trial i a ∷ []) n
  pub sweeps : SweepsTo t v (take i v) a n v' r
  pub only : ChangedOnly (live_at (first_pair t.pairs i)) blames v v'

module _ {t : Tables} {w : List ℕ} {i : ℕ} {backward : Backward} {a₀ s₀ : ℕ} {m : Counts} {a s : ℕ} {k n : Counts} {v v' : List ℕ} {r : Swept}
    (c : AfterSweep t w i backward a₀ s₀ m a s k n v v' r) where
  pub kept_after : Reached t w i v'
  kept_after = only_trans c.tried.kept c.only

  swept : (r' : Swept) → r ≡ r' → SweepsTo t v (take i w) a n v' r'
  swept r' e = subst (λ (q : List ℕ). SweepsTo t v q a n v' r') (kept_take c.tried.ready c.tried.kept) (subst (SweepsTo t v (take i v) a n v') e c.sweeps)

  pub swept_clear : {x : Counts} → r ≡ Clear x →
      Passes t (steps_over t (ahead_by_plan t) backward) (take i w) a₀ (state backward (set_words w i s₀)) m a (state backward (set_words w i s)) x
  swept_clear {x} e =
      let z = swept (Clear x) e in
      record {
        inside = in_choices t (ahead_by_plan t) backward w i (short c.tried.ready) c.tried.ready.boat a s c.tried.slot;
        remembered = state backward (set_words w i s);
        reached = k;
        comes = c.tried.comes;
        events = trial i a ∷ (sweep_of t (take i w) a).checks;
        steps = slot_passes t backward w i (short c.tried.ready) c.tried.ready.boat a s c.tried.slot (tells c.tried) z.clear;
        makes = makes_append c.counted z.makes;
      }

  pub clear_lives : {x : Counts} → r ≡ Clear x → Lives t v' (take i w ++ (a ∷ [])) (suc i)
  clear_lives {x} e =
      lives_pass t i v v' c.tried.ready.sane c.only (take i w) a (long c.tried.ready) (kept_lives c.tried.ready c.tried.kept)
      (subst (λ (g : ℕ). Stays t v v' g a) (long c.tried.ready) (swept (Clear x) e).stays)

  module _ {x : Counts} (e : r ≡ OutOf x) where
    stops : StopsIn n (sweep_of t (take i w) a).checks Checks (x.checks - n.checks) x
    stops = swept (OutOf x) e

    pub swept_out : RunsOut t (steps_over t (ahead_by_plan t) backward) (take i w) a₀ (state backward (set_words w i s₀)) m Checks a (state backward (set_words w i s))
        (1 + (x.checks - n.checks)) x
    swept_out = stopped c.tried (stops_behind c.counted stops)

    -- a trial has few checks
    pub out_few : x.checks - n.checks ≤ 4096
    out_few =
        omega (
          arith,
          ap (length {A = Event}) stops.split,
          length-append stops.before (stops.due ∷ stops.behind),
          stops.count,
          sweep_few t (take i w) a (λ h lh. rw (choices_size t h) (c.tried.ready.sane.few_slots h lh)) (suc (length (take i w))) (boats t - suc (length (take i w)))
              (omega (arith, long c.tried.ready, c.tried.ready.boat)),
          c.tried.ready.sane.few_boats,
        )

  module _ {q : ℕ} {x : Counts} (e : r ≡ Emptied x q) where
    abbrev j : ℕ
    j = higher t.pairs q

    own : lower t.pairs q ≡ i
    own = (swept (Emptied x q) e).own ∙ long c.tried.ready

    pub is_pair_lem : q < listed t.pairs
    is_pair_lem = (swept (Emptied x q) e).pair

    named : j < boats t
    named = c.tried.ready.sane.boats_named q is_pair_lem

    -- its live word before
    pub before_word : word v' (512 + q) ≡ left_at t.pairs i j
    before_word = (kept_chained c.tried.ready kept_after).prev q is_pair_lem ∙ ap (λ (g : ℕ). left_at t.pairs g j) own

    pub before_few : word v' (512 + q) < 4096 + listed t.pairs
    before_few = omega (arith, before_word, left_before t c.tried.ready.sane i i j (le_refl i) named, first_le t.pairs i)

    emptied_on : (u : ℕ) → (backward ≡ BySets → (g : ℕ) → bit u g ≡ (bit s g || blamers_of t (take i w) j g)) → Comes t w i backward a₀ s₀ m (a + 1) u x
    emptied_on u f =
        rw add-one
        (come_more t _ c.tried.comes (slot_fails t backward w i (short c.tried.ready) c.tried.ready.boat a s c.tried.slot (tells c.tried) j u (swept (Emptied x q) e).emptied f)
        (makes_append c.counted (swept (Emptied x q) e).makes))

    -- stepping back, the set does not matter
    pub emptied_steps : backward ≡ OneBack → Comes t w i backward a₀ s₀ m (a + 1) s x
    emptied_steps f = emptied_on s (λ h. let z : ◌≡◌ {A = ℕ} 0 1 = cc in absurd (omega arith))

    -- whom it blames
    abbrev pub blamed : ℕ
    blamed = word v' (blame_at (word v' (prev_at q)))

    -- jumping, the blamers of the emptied boat join it
    pub emptied_jumps : backward ≡ BySets → ((b : ℕ) → word v' b < 2 ^ 64) →
        (blamed < 2 ^ i) × Comes t w i backward a₀ s₀ m (a + 1) (bit_or s blamed) x
    emptied_jumps b fit = (is_lost.below, emptied_on (bit_or s blamed) (λ h. joined))
      where
        is_lost : LostAt t v' i j blamed
        is_lost = rw before_word (blamed_here i j (le_refl i) named)
          where
            blamed_here : Blames t v' i
            blamed_here =
                blames_stay t w v' c.tried.ready.sane i (same_before kept_after (le_refl _)) (same_after kept_after (le_refl _))
                (subst (λ (y : Backward). BlamesKept y t w i) b c.tried.ready.kept.blames)

        later : i < j
        later = omega (arith, own, c.tried.ready.sane.lower_first q is_pair_lem)

        joined : (g : ℕ) → bit (bit_or s blamed) g ≡ (bit s g || blamers_of t (take i w) j g)
        joined g =
            bit_or_lem s blamed g
            ∙ ap (λ (y : Bool). bit s g || y)
            (lost_blamers t v' (take i w) i j (long c.tried.ready) (le_of_lt later) named (c.tried.ready.sane.few_slots j named) fit (kept_lives c.tried.ready kept_after) blamed is_lost g)

-- after a sweep there are all the words; where it emptied a boat, the place of the live word before is small
module _ {t : Tables} {w : List ℕ} {i : ℕ} {backward : Backward} {a₀ s₀ : ℕ} {m : Counts} {a s : ℕ} {k n : Counts} {v v' : List ℕ} {r : Swept}
    (c : AfterSweep t w i backward a₀ s₀ m a s k n v v' r) where
  pub long_after : 8192 ≤ length v'
  long_after = omega (arith, (kept_after c).long, c.tried.ready.room)

  pub before_small : {q : ℕ} {x : Counts} → r ≡ Emptied x q → word v' (512 + q) < 6112
  before_small e = omega (arith, before_few c e, c.tried.ready.sane.few_pairs)
