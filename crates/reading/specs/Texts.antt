-- Texts as they are read: what is left of one.
use Rattle.std.specs.Prelude.{List, [], ◌∷◌, ℕ, eqb, if◌then◌else◌}

-- past a mark, where the text begins with it
abbrev pub past_mark : ℕ → List ℕ → List ℕ
past_mark mark [] = []
past_mark mark (byte ∷ left) = if eqb byte mark then left else (byte ∷ left)
