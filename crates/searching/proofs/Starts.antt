-- The words cleared and made ready, and the walk from there, are a search from the beginning.
use mathlib.Core.Path.{subst}
use mathlib.Core.List.{List, []}
use Prim.Native.Nat.{ℕ}
use Rattle.problem.specs.Tables.{Tables}
use Rattle.events.specs.declared.Counts.{Counts}
use Rattle.words.specs.Places.{used}
use Rattle.words.specs.Layout.{ChangedOnly}
use Rattle.words.proofs.ChangedOnly.{only_trans}
use Rattle.moves.specs.declared.Moves.{Moves}
use Rattle.moves.specs.Memory.{Memory}
use Rattle.moves.specs.Prepared.{Prepared}
use Rattle.ends.specs.declared.Ended.{Ended}
use Rattle.walk.specs.Walks.{EndsAt, Walked}
use Rattle.searching.specs.Searched.{Searched}

-- w₀ is cleared to w₁, which made ready is w, from which the walk goes to w'
pub from_start : (moves : Moves) (t : Tables) (w₀ w₁ w w' : List ℕ) (m : Counts) (r : Ended) → ChangedOnly 0 used w₀ w₁ → Prepared moves t w₁ w → Walked moves t w 0 0 m w' r →
    Searched moves t w₀ m w' r
from_start moves t w₀ w₁ w w' m r o p e =
    record {
      only = only_trans o (only_trans p.only e.only);
      ends = subst (λ (σ : Memory moves). EndsAt moves t [] 0 σ m w' r) p.fresh e.ends;
    }
