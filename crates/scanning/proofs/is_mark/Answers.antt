-- The slice that is compared is two bytes long.
use mathlib.Core.Path.{◌≡◌, ap, ◌∙◌}
use Prim.Native.Nat.{◌+◌, ◌-◌}
use native.Mathlib.Omega.{arith}
use lib.ListN.{take, drop}
use Rattle.files.specs.Reading.{same}
use Rattle.scanning.proofs.Meeting.{mark_tested}
use Rattle.scanning.proofs.is_mark.Goals as goal

pub returns : goal.returns
returns c =
    let a = c.args in
    let two : a.at + 2 - a.at ≡ 2 = omega arith in
    c.eq.ensures ∙ mark_tested _ a.mark.now ∙ ap (λ n. same (take n (drop a.at a.file.now)) a.mark.now) two
