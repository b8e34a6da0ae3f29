-- THE PLACES of the working words by name, as docs/WORDS.md has them. (src/places.rt has the same numbers for the code.)
use Rattle.std.specs.Prelude.{ℕ, zero, suc, ◌+◌, ◌*◌}

-- 0 + 1 + .. + (i - 1)
unfoldable pub tri : ℕ → ℕ
tri zero = 0
tri (suc i) = tri i + i

-- ---- where each kind of word begins; the words of a run end at `used`
abbrev pub sets : ℕ
sets = 64

abbrev pub lows : ℕ
lows = 64

abbrev pub lows_end : ℕ
lows_end = 128

abbrev pub starts : ℕ
starts = 192

abbrev pub row_starts : ℕ
row_starts = 320

abbrev pub row_starts_end : ℕ
row_starts_end = 384

abbrev pub lasts : ℕ
lasts = 448

abbrev pub index : ℕ
index = 512

abbrev pub links : ℕ
links = 512

abbrev pub prevs : ℕ
prevs = 512

abbrev pub alls : ℕ
alls = 4032

abbrev pub marks : ℕ
marks = 4096

abbrev pub lives : ℕ
lives = 4096

abbrev pub blames : ℕ
blames = 6112

abbrev pub used : ℕ
used = 8192

-- ---- CBJ, FC-CBJ: the conflict set of boat i, and of the boat after it
abbrev pub set_at : (i : ℕ) → ℕ
set_at i = sets + i

abbrev pub next_set_at : (i : ℕ) → ℕ
next_set_at i = 65 + i

-- ---- BM: b of boat i, and the mark of its slot a
abbrev pub low_at : (i : ℕ) → ℕ
low_at i = lows + i

abbrev pub mark_at : (i a : ℕ) → ℕ
mark_at i a = marks + 64 * i + a

-- ---- BT, CBJ: where the links of boat i begin and end. FC, FC-CBJ: the same of the pairs with boat i as their lower boat, and where their rows begin
abbrev pub start_at : (i : ℕ) → ℕ
start_at i = starts + i

abbrev pub end_at : (i : ℕ) → ℕ
end_at i = 193 + i

abbrev pub row_start_at : (i : ℕ) → ℕ
row_start_at i = row_starts + i

-- ---- BT, CBJ: link q
abbrev pub link_at : (q : ℕ) → ℕ
link_at q = links + q

-- ---- BM, and the others while links are made: the index of the pair of boats h and i, h below i
abbrev pub index_at : (h i : ℕ) → ℕ
index_at h i = index + tri i + h

-- ---- FC, FC-CBJ: all slots of boat j
abbrev pub all_at : (j : ℕ) → ℕ
all_at j = alls + j

-- ---- FC, FC-CBJ: where the live slots of boat j stand when its turn comes
abbrev pub last_at : (j : ℕ) → ℕ
last_at j = lasts + j

-- ---- FC, FC-CBJ: where the live word before pair p stands
abbrev pub prev_at : (p : ℕ) → ℕ
prev_at p = prevs + p

-- ---- FC, FC-CBJ: the live word of pair p, the slots of its higher boat still live once its lower boat's trial has passed
abbrev pub live_at : (p : ℕ) → ℕ
live_at p = lives + p

-- ---- FC-CBJ: the boats to blame for the live word at a place, from `blames` on: first for all slots, which stand just before the live words of pairs. From a live word to the one beside it are 2,080 words, which is `Words::BLAMES` in the code
abbrev pub blame_at : (place : ℕ) → ℕ
blame_at place = 2080 + place
