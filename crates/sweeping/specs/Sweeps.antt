-- A trial's way over the later boats, over the words.
use Rattle.std.specs.Prelude.{◌≡◌, List, ℕ, suc, ◌-◌, ◌≤◌, ◌<◌, length, take}
use Rattle.std.proofs.Math.Option.{none, some}
use Rattle.problem.specs.Tables.{Tables, boats, size, listed, lower, higher, start}
use Rattle.problem.specs.Sane.{Sane}
use Rattle.problem.specs.declared.Allowance.TheVariants.{Checks}
use Rattle.events.specs.declared.Counts.{Counts}
use Rattle.events.specs.Counts.{Makes, StopsIn}
use Rattle.methods.specs.FC.{Swept as SweptOver}
use Rattle.methods.specs.ByPlan.{open_sweep}
use Rattle.words.specs.Places.{used}
use Rattle.words.specs.Layout.{first_pair, Chained}
use Rattle.live_words.specs.Lives.{Lives, Stays}
use Rattle.sweeping.specs.declared.Own.{Own}
use Rattle.sweeping.specs.declared.Swept.{Swept}
use Rattle.sweeping.specs.declared.Swept.TheVariants.{Clear, Emptied, OutOfChecks}

-- what a sweep of slot a of boat i goes by
pub record Sweepable (t : Tables) (w : List ℕ) (i a : ℕ) : Type 0 where
  pub sane : Sane t
  pub boat : i < boats t
  pub slot : a < size t.sizes i
  pub room : used ≤ length w
  pub chained : Chained t w
  pub lives : Lives t w (take i w) i

-- boat i's own pairs, and where their rows are
pub record Owns (t : Tables) (i : ℕ) (own : Own) : Type 0 where
  pub first : own.first ≡ first_pair t.pairs i
  pub last : own.end ≡ first_pair t.pairs (suc i)
  pub row : own.row ≡ start t.sizes t.pairs (first_pair t.pairs i)
  pub slots : own.size ≡ size t.sizes i

-- all that a trial of choice a does at the later boats, behind the plan so far p
abbrev pub sweep_of : Tables → (p : List ℕ) → (a : ℕ) → SweptOver
sweep_of t p a = open_sweep t p a (suc (length p)) (boats t - suc (length p))

-- no boat is emptied, and the words hold what stays
pub record SweepsClear (t : Tables) (w p : List ℕ) (a : ℕ) (m : Counts) (w' : List ℕ) (k : Counts) : Type 0 where
  pub clear : (sweep_of t p a).emptied ≡ none
  pub makes : Makes m (sweep_of t p a).checks k
  pub stays : Stays t w w' (length p) a

-- the higher boat of pair q, which is one of the boat's own, is emptied
pub record SweepsEmpty (t : Tables) (p : List ℕ) (a : ℕ) (m : Counts) (q : ℕ) (k : Counts) : Type 0 where
  pub pair : q < listed t.pairs
  pub own : lower t.pairs q ≡ length p
  pub emptied : (sweep_of t p a).emptied ≡ some (higher t.pairs q)
  pub makes : Makes m (sweep_of t p a).checks k

-- a sweep from the words w that leaves w'
abbrev pub SweepsTo : Tables → (w p : List ℕ) → (a : ℕ) → Counts → (w' : List ℕ) → Swept → Type 0
SweepsTo t w p a m w' (Clear k) = SweepsClear t w p a m w' k
SweepsTo t w p a m w' (Emptied k q) = SweepsEmpty t p a m q k
SweepsTo t w p a m w' (OutOfChecks k) = StopsIn m (sweep_of t p a).checks Checks (k.checks - m.checks) k
