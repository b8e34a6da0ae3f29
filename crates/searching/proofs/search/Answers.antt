-- The words cleared, what is made ready in them, and the walk from there.
use mathlib.Core.Path.{ap, ◌∙◌}
use mathlib.Core.List.{List}
use Prim.Native.Nat.{ℕ}
use native.Mathlib.Omega.{arith}
use lib.ListN.{length}
use Rattle.words.specs.Layout.{word}
use Rattle.words.proofs.Zeroed.{zeroed_at, zeroed_long, zeroed_only}
use Rattle.searching.proofs.Starts.{from_start}
use Rattle.searching.proofs.search.Goals as goal

pub prepare-requires : goal.prepare-requires
prepare-requires g c =
    let w = c.args.work.now in
    let room = c.requires.used_in_bounds in (
      omega (arith, ap length c.clear.ensures, zeroed_long 8192 w room, room),
      λ k lo hi. ap (λ (v : List ℕ). word v k) c.clear.ensures ∙ zeroed_at 8192 k w hi,
    )

pub returns : goal.returns
returns g c = from_start _ _ _ _ _ _ _ _ (rw c.clear.ensures (zeroed_only 8192 c.args.work.now c.requires.used_in_bounds)) c.prepare.ensures c.walk.ensures
