-- What is expected of the cases of specs/Cases.antt is what the definitions say: computed from them.
use Rattle.std.specs.Prelude.{◌≡◌, refl, map}
use Rattle.methods.specs.Cases.{comes_of, harbour_cases, further_cases}

pub thirteen : map comes_of harbour_cases ≡ map (λ k. k.expected) harbour_cases
unfolding comes_of harbour_cases
thirteen = refl

pub further : map comes_of further_cases ≡ map (λ k. k.expected) further_cases
unfolding comes_of further_cases
further = refl
