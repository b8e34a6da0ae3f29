-- The live words: the slots that the placed boats leave each boat to come.
use Rattle.std.specs.Prelude.{◌≡◌, true, not, ◌&&◌, List, ℕ, suc, ◌^◌, ◌≤◌, ◌<◌, ltb, eqb, take}
use Rattle.problem.specs.Tables.{Tables, boats, size, is_listed, bit}
use Rattle.methods.specs.Choices.{may_stand}
use Rattle.methods.specs.ByPlan.{is_open}
use Rattle.words.specs.Places.{blame_at}
use Rattle.words.specs.Layout.{word, left_at}

-- the slots of boat j that the boats below k leave live
abbrev pub left_word : Tables → List ℕ → (k j : ℕ) → ℕ
left_word t w k j = word w (left_at t.pairs k j)

-- under the plan so far p, up to boat i
abbrev pub Lives : Tables → List ℕ → (p : List ℕ) → (i : ℕ) → Type 0
Lives t w p i =
    (k j b : ℕ) → k ≤ i → k ≤ j → j < boats t → b < 64 → bit (left_word t w k j) b ≡ (is_open t (take k p) j b && ltb b (size t.sizes j))

-- boat i, whose slot a is tried, leaves the boats listed with it what stays of what it found
abbrev pub Stays : Tables → (w w' : List ℕ) → (i a : ℕ) → Type 0
Stays t w w' i a =
    (j b : ℕ) → i < j → j < boats t → b < 64 → is_listed t.pairs i j ≡ true → bit (left_word t w' (suc i) j) b ≡ (bit (left_word t w i j) b && may_stand t i a j b)

-- r is the set of the boats below i at whose trials boat j lost a slot. (Said of the words; with `Lives` it is a function of tables and plan)
pub record LostAt (t : Tables) (w : List ℕ) (i j r : ℕ) : Type 0 where
  pub members : (g : ℕ) → bit r g ≡ (ltb g i && not (eqb (left_word t w g j) (left_word t w (suc g) j)))
  pub below : r < 2 ^ i

-- beside each live word stand the boats that struck a slot of its boat: up to boat i
abbrev pub Blames : Tables → List ℕ → (i : ℕ) → Type 0
Blames t w i = (k j : ℕ) → k ≤ i → j < boats t → LostAt t w k j (word w (blame_at (left_at t.pairs k j)))
