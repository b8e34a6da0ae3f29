-- A search, the plan written and the words cleared make a whole run.
use mathlib.Core.Path.{◌≡◌, refl, sym, ap, ap₂, ◌∙◌}
use mathlib.Core.List.{List, ◌++◌}
use Prim.Native.Nat.{ℕ, ◌≤◌}
use native.Mathlib.Omega.{arith}
use lib.ListN.{length, take, drop}
use Rattle.problem.specs.Tables.{Tables, boats}
use Rattle.problem.specs.Replies.{Told, answer_told}
use Rattle.problem.specs.declared.Method.{Method}
use Rattle.problem.specs.declared.Method.TheVariants.{Bt, Cbj, Bm, Fc, FcCbj}
use Rattle.problem.specs.declared.Allowance.TheVariants.{Checks, Trials}
use Rattle.problem.specs.declared.Reply.{Reply}
use Rattle.events.specs.Allowances.{Decision, Outcome, outcome, cut}
use Rattle.events.specs.declared.Counts.{Counts}
use Rattle.events.specs.Counts.{fresh, cut_at}
use Rattle.methods.specs.Machine.{search}
use Rattle.methods.specs.BT.{bt}
use Rattle.methods.specs.CBJ.{cbj}
use Rattle.methods.specs.Methods.{search_by}
use Rattle.methods.proofs.AheadSame.{fc_searches, fccbj_searches}
use Rattle.methods.proofs.Theorems.{searched}
use Rattle.words.specs.Layout.{zeroed}
use Rattle.words.proofs.ChangedOnly.{only_drop}
use Rattle.words.proofs.Zeroed.{zeroed_same}
use Rattle.moves.specs.Memory.{moves_of, steps_by}
use Rattle.ends.specs.declared.Ended.{Ended}
use Rattle.ends.specs.declared.Ended.TheVariants.{Solved, NoPlan, Undecided}
use Rattle.ends.specs.Ends.{counts_then, decision_then}
use Rattle.searching.specs.Searched.{Searched}
use Rattle.walk.proofs.Cut.{ended_cut}
use Rattle.runs.specs.Runs.{decision_told, written, Result, finished_result, result_of}
use Rattle.ends.specs.Replies.{answer_of, reply_at_end}

-- the form that the code follows makes the events of the method as it is defined
search_by_lem : (chosen : Method) (t : Tables) → search t (steps_by (moves_of chosen) t) ≡ search_by chosen t
unfolding bt cbj
search_by_lem Bt t = sym (searched Bt t)
search_by_lem Cbj t = sym (searched Cbj t)
search_by_lem Bm t = sym (searched Bm t)
search_by_lem Fc t = sym (fc_searches t) ∙ sym (searched Fc t)
search_by_lem FcCbj t = sym (fccbj_searches t) ∙ sym (searched FcCbj t)

told_as : (r : Ended) (p : List ℕ) → answer_told (answer_of r) ≡ decision_told (decision_then r p)
told_as (Solved k) p = refl
told_as (NoPlan k) p = refl
told_as (Undecided k Checks at) p = refl
told_as (Undecided k Trials at) p = refl

module _ (chosen : Method) (t : Tables) (checks trials : ℕ) (r : Ended) (m : Counts) (p₀ p w₀ w₂ v : List ℕ) where
  abbrev decision : Decision
  decision = decision_then r (take (boats t) w₂)

  -- what is written of it
  abbrev pub given : List ℕ
  given = written decision

  met : m ≡ fresh checks trials → boats t ≤ length w₂ → Searched (moves_of chosen) t w₀ m w₂ r → cut checks trials (search_by chosen t) ≡ outcome decision (counts_then r).checks (counts_then r).trials
  unfolding cut search
  met em long s =
      ap (cut checks trials) (sym (search_by_lem chosen t))
      ∙ ap (λ (x : Counts). cut_at x (search t (steps_by (moves_of chosen) t))) (sym em)
      ∙ ended_cut s long

  -- the reply and what is lent
  result : Told → (plan work : List ℕ) → Result
  result x plan work = record { answer = x; checks = (counts_then r).checks; trials = (counts_then r).trials; plan = plan; work = work }

  pub finished : {y : Reply} → y ≡ reply_at_end r → m ≡ fresh checks trials → boats t ≤ length w₂ → Searched (moves_of chosen) t w₀ m w₂ r → p ≡ given ++ drop (length given) p₀ → v ≡ zeroed 8192 w₂ →
      result_of y p v ≡ finished_result (cut checks trials (search_by chosen t)) p₀ w₀
  unfolding result
  finished er em long s ep ev =
      let clean : v ≡ zeroed 8192 w₀ = ev ∙ zeroed_same 8192 w₂ w₀ (only_drop 8192 (omega arith) s.only) in
      ap (λ (y : Reply). result_of y p v) er
      ∙ ap (λ (x : Told). result x p v) (told_as r (take (boats t) w₂))
      ∙ ap₂ (result (decision_told decision)) ep clean
      ∙ ap (λ (o : Outcome). finished_result o p₀ w₀) (sym (met em long s))
