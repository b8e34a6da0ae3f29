-- The backward moves over words.
use Rattle.std.specs.Prelude.{◌≡◌, List, ℕ, zero, suc, ◌<◌}
use Rattle.words.specs.Places.{set_at, next_set_at}
use Rattle.words.specs.Layout.{word, ChangedOnly}
use Rattle.words.specs.Sets.{Deepest, HandedDown}
use Rattle.std.specs.Prelude.{Option, Some, None}

-- one boat back
abbrev pub steps_back : (i : ℕ) → Option ℕ
steps_back zero = None
steps_back (suc h) = Some h

-- back to the deepest boat to blame: only its set changed
pub record HandsDown (w : List ℕ) (i blamed : ℕ) (w' : List ℕ) (h : ℕ) : Type 0 where
  pub deepest : Deepest blamed h
  pub below : h < i
  pub handed : HandedDown blamed (word w (set_at h)) h (word w' (set_at h))
  pub only : ChangedOnly (set_at h) (next_set_at h) w w'

abbrev pub JumpsBack : List ℕ → (i blamed : ℕ) → List ℕ → Option ℕ → Type 0
JumpsBack w i blamed w' (Some h) = HandsDown w i blamed w' h
JumpsBack w i blamed w' None = (blamed ≡ 0) × (w' ≡ w)
