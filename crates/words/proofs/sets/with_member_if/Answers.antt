-- The union with a single boat, or with none: the cast makes 1 of true and 0 of false.
use mathlib.Core.Bool.{Bool, true, false}
use Prim.Native.Nat.{ℕ, ◌*◌, ◌%◌, ◌^◌, ◌<◌}
use native.Mathlib.Nat.{zero-mul}
use lib.Bits.{bit_or, or_zero_r}
use mir.Val.{bool_byte}
use Rattle.words.specs.Sets.{WithMemberIf}
use Rattle.words.proofs.Bits.{shl_one, inserted}
use Rattle.words.proofs.sets.with_member_if.Goals as goal

inserted_if : (member : Bool) (s h : ℕ) → h < 64 → WithMemberIf member s h (bit_or s (bool_byte member * 2 ^ h % 2 ^ 64))
inserted_if true s h lt = rw (shl_one h lt) (inserted s h)
inserted_if false s h lt = rw (zero-mul (2 ^ h)) (or_zero_r s)

pub returns : goal.returns
returns c = inserted_if c.args.member c.args.set c.args.h c.requires
