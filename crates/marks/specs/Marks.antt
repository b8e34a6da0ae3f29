-- The marks that the working words hold.
use Rattle.std.specs.Prelude.{cond, ◌&&◌, List, ℕ, ◌+◌, ◌≤◌, ◌<◌, ltb}
use Rattle.methods.specs.BM.{Marks}
use Rattle.words.specs.Places.{low_at, mark_at}
use Rattle.words.specs.Layout.{word}

-- m and b of the boats and slots below 64; all others are 0
abbrev pub marks_of : List ℕ → Marks
marks_of w =
    record {
      m = λ i a. cond (ltb i 64 && ltb a 64) (word w (mark_at i a)) 0;
      b = λ i. cond (ltb i 64) (word w (low_at i)) 0;
    }

-- b never rises from a boat after i to the next
abbrev pub NeverRises : List ℕ → (i : ℕ) → Type 0
NeverRises w i = (j : ℕ) → i < j → j < 63 → word w (low_at (j + 1)) ≤ word w (low_at j)
