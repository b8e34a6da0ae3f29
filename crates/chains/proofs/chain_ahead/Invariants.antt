-- First the boats with all their slots, then the pairs passed.
use Rattle.chains.proofs.Chain.{ChainBegun, ChainTo}
use Rattle.chains.proofs.chain_ahead.Given as goal

abbrev pub invariant-loop-j : goal.invariant-loop-j
invariant-loop-j l = ChainBegun l.initial.work l.work l.j

abbrev pub invariant-loop-k : goal.invariant-loop-k
invariant-loop-k l = ChainTo l.tables l.initial.work l.work l.k
