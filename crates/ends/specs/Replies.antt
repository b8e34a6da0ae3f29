-- The reply that says how a run came out.
use Rattle.problem.specs.declared.Answer.{Answer}
use Rattle.problem.specs.declared.Answer.TheVariants.{Solved, NoPlan, Undecided}
use Rattle.problem.specs.declared.Reply.{Reply}
use Rattle.ends.specs.declared.Ended.{Ended}
use Rattle.ends.specs.declared.Ended.TheVariants.{Solved as EndSolved, NoPlan as EndNoPlan, Undecided as EndUndecided}
use Rattle.ends.specs.Ends.{counts_then}

-- the end of a search as a reply: where an undecided one stands is not told
abbrev pub answer_of : Ended → Answer
answer_of (EndSolved k) = Solved
answer_of (EndNoPlan k) = NoPlan
answer_of (EndUndecided k which p) = Undecided which

abbrev pub reply_at_end : Ended → Reply
reply_at_end r = record { answer = answer_of r; checks = (counts_then r).checks; trials = (counts_then r).trials }
