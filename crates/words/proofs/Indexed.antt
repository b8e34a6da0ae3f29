-- What an index word says of its pair.
use mathlib.Core.Path.{◌≡◌, refl, ◌∙◌}
use mathlib.Core.Bool.{Bool, true, false}
use Prim.Native.Nat.{ℕ, suc, ◌<◌}
use native.Mathlib.Omega.{arith}
use Rattle.problem.specs.Tables.{Tables, place, is_listed, start}
use Rattle.words.specs.Layout.{index_of}

module _ (t : Tables) (h i index : ℕ) (e : index ≡ index_of t h i) where
  pub index_unlisted : is_listed t.pairs h i ≡ false → index ≡ 0
  unfolding index_of
  index_unlisted u = e ∙ rw (u, index_of)

  pub index_listed : is_listed t.pairs h i ≡ true → index ≡ suc (start t.sizes t.pairs (place t.pairs h i))
  unfolding index_of
  index_listed l = e ∙ rw (l, index_of)

  pub unlisted_index : index ≡ 0 → is_listed t.pairs h i ≡ false
  unlisted_index z = by (is_listed t.pairs h i) refl
    where
      by : (b : Bool) → is_listed t.pairs h i ≡ b → b ≡ false
      by false l = refl
      by true l = absurd (omega (arith, index_listed l))

  pub listed_index : 0 < index → is_listed t.pairs h i ≡ true
  listed_index pos = by (is_listed t.pairs h i) refl
    where
      by : (b : Bool) → is_listed t.pairs h i ≡ b → b ≡ true
      by true l = refl
      by false l = absurd (omega (arith, index_unlisted l))
