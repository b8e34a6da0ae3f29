-- The words filled are the first 8,192.
use mathlib.Core.Path.{ap, ◌∙◌}
use mathlib.Core.List.{List, ◌++◌}
use Prim.Native.Nat.{ℕ}
use lib.ListN.{drop, replicate}
use lib.Seq.{length-take-le}
use Rattle.words.specs.Layout.{zeroed}
use Rattle.words.proofs.clearing.clear.Goals as goal

pub returns : goal.returns
unfolding zeroed
returns c =
    ap (λ (v : List ℕ). v ++ drop 8192 c.args.work.now)
    (c.fill.ensures.after (λ y e. e) ∙ ap (λ (n : ℕ). replicate n 0) (length-take-le 8192 c.args.work.now c.requires))
