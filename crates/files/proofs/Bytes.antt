-- Numbers to bytes and back; words to bytes and back.
use mathlib.Core.Path.{◌≡◌, refl, sym, ap, ap₂, subst, ◌∙◌}
use mathlib.Core.List.{List, [], ◌∷◌, ◌++◌}
use Prim.Native.Nat.{ℕ, zero, suc, ◌+◌, ◌-◌, ◌*◌, ◌/◌, ◌%◌, ◌^◌, ◌≤◌, ◌<◌}
use native.Mathlib.Nat.{div-lt_iff_lt-mul}
use native.Mathlib.Omega.{arith}
use lib.ListN.{length, get_or, take, drop, length-append, length-drop, take-append-drop, get_or-append}
use lib.Seq.{length-take-le, take-append-le, drop-append-le, take-suc, take_all, get_or-drop, get_or-append-add, get_or_at}
use Rattle.files.specs.Bytes.{bytes_of, number, words_of, joined, Below}

pub bytes_length : (k w : ℕ) → length (bytes_of k w) ≡ k
unfolding bytes_of
bytes_length zero w = refl
bytes_length (suc k) w = ap suc (bytes_length k (w / 256))

pub number_of_bytes : (k w : ℕ) → w < 256 ^ k → number (bytes_of k w) ≡ w
unfolding bytes_of number
number_of_bytes zero w l = omega arith
number_of_bytes (suc k) w l =
    let ih : number (bytes_of k (w / 256)) ≡ w / 256 = number_of_bytes k (w / 256) ((div-lt_iff_lt-mul (omega arith)).1 (omega arith)) in
    omega arith

-- ---- each entry below a bound
pub below_head : {bound : ℕ} (x : ℕ) (xs : List ℕ) → Below bound (x ∷ xs) → x < bound
below_head x xs b = b 0 (omega arith)

pub below_tail : {bound : ℕ} (x : ℕ) (xs : List ℕ) → Below bound (x ∷ xs) → Below bound xs
below_tail x xs b i l = b (suc i) (omega arith)

pub below_cons : {bound : ℕ} (x : ℕ) (xs : List ℕ) → x < bound → Below bound xs → Below bound (x ∷ xs)
below_cons x xs p b zero l = p
below_cons x xs p b (suc i) l = b i (omega arith)

pub below_left : {bound : ℕ} (xs ys : List ℕ) → Below bound (xs ++ ys) → Below bound xs
below_left xs ys b i l = rw (get_or-append xs ys 0 i l) at (b i (omega (arith, length-append xs ys)))

pub below_right : {bound : ℕ} (xs ys : List ℕ) → Below bound (xs ++ ys) → Below bound ys
below_right xs ys b i l = rw (get_or-append-add xs ys i 0) at (b (length xs + i) (omega (arith, length-append xs ys)))

pub below_join : {bound : ℕ} (xs ys : List ℕ) → Below bound xs → Below bound ys → Below bound (xs ++ ys)
below_join [] ys b c i l = c i l
below_join (x ∷ xs) ys b c zero l = b 0 (omega arith)
below_join (x ∷ xs) ys b c (suc i) l = below_join xs ys (below_tail x xs b) c i (omega arith)

pub bytes_of_number : (bytes : List ℕ) → Below 256 bytes → bytes_of (length bytes) (number bytes) ≡ bytes
unfolding bytes_of number
bytes_of_number [] b = refl
bytes_of_number (x ∷ bytes) b =
    let small : x < 256 = below_head x bytes b in
    let low : (x + 256 * number bytes) % 256 ≡ x = omega arith in
    let high : (x + 256 * number bytes) / 256 ≡ number bytes = omega arith in
    ap₂ ◌∷◌ low (ap (bytes_of (length bytes)) high ∙ bytes_of_number bytes (below_tail x bytes b))

pub number_below : (bytes : List ℕ) → Below 256 bytes → number bytes < 256 ^ length bytes
unfolding number
number_below [] b = omega arith
number_below (x ∷ bytes) b =
    let small : x < 256 = below_head x bytes b in
    let ih : number bytes < 256 ^ length bytes = number_below bytes (below_tail x bytes b) in
    let power : 256 ^ suc (length bytes) ≡ 256 * 256 ^ length bytes = omega arith in
    omega arith

pub bytes_below : (k w : ℕ) → Below 256 (bytes_of k w)
unfolding bytes_of
bytes_below zero w i l = absurd (omega arith)
bytes_below (suc k) w zero l = omega arith
bytes_below (suc k) w (suc i) l = bytes_below k (w / 256) i (omega arith)

-- ---- joined parts
pub joined_same : (n : ℕ) (f g : ℕ → List ℕ) → ((i : ℕ) → i < n → f i ≡ g i) → joined n f ≡ joined n g
unfolding joined
joined_same zero f g e = refl
joined_same (suc n) f g e = ap₂ ◌++◌ (joined_same n f g (λ i l. e i (omega arith))) (e n (omega arith))

pub joined_length : (n k : ℕ) (f : ℕ → List ℕ) → ((i : ℕ) → length (f i) ≡ k) → length (joined n f) ≡ k * n
unfolding joined
joined_length zero k f e = omega arith
joined_length (suc n) k f e = omega (arith, length-append (joined n f) (f n), joined_length n k f e, e n)

pub joined_below : {bound : ℕ} (n : ℕ) (f : ℕ → List ℕ) → ((i : ℕ) → i < n → Below bound (f i)) → Below bound (joined n f)
unfolding joined
joined_below zero f b i l = absurd (omega arith)
joined_below (suc n) f b i l = below_join (joined n f) (f n) (joined_below n f (λ j h. b j (omega arith))) (b n (omega arith)) i l

-- ---- words
pub words_length : (m : ℕ) (bytes : List ℕ) → length (words_of m bytes) ≡ m
unfolding words_of
words_length zero bytes = refl
words_length (suc m) bytes = ap suc (words_length m (drop 8 bytes))

pub below_take : {bound : ℕ} (k : ℕ) (xs : List ℕ) → Below bound xs → Below bound (take k xs)
below_take {bound} k xs b = below_left (take k xs) (drop k xs) (subst (Below bound) (sym (take-append-drop k xs)) b)

pub below_drop : {bound : ℕ} (k : ℕ) (xs : List ℕ) → Below bound xs → Below bound (drop k xs)
below_drop {bound} k xs b = below_right (take k xs) (drop k xs) (subst (Below bound) (sym (take-append-drop k xs)) b)

-- eight bytes say a word
pub words_below : (m : ℕ) (bytes : List ℕ) → length bytes ≡ 8 * m → Below 256 bytes → Below (2 ^ 64) (words_of m bytes)
unfolding words_of
words_below zero bytes e b i l = absurd (omega arith)
words_below (suc m) bytes e b i l =
    let eight : length (take 8 bytes) ≡ 8 = length-take-le 8 bytes (omega arith) in
    let word : number (take 8 bytes) < 256 ^ 8 = rw eight at (number_below (take 8 bytes) (below_take 8 bytes b)) in
    below_cons (number (take 8 bytes)) (words_of m (drop 8 bytes)) word
    (words_below m (drop 8 bytes) (omega (arith, length-drop 8 bytes)) (below_drop 8 bytes b)) i l

-- the last of m + 1 words
pub words_last : (m : ℕ) (front back : List ℕ) → length front ≡ 8 * m → length back ≡ 8 → words_of (suc m) (front ++ back) ≡ words_of m front ++ (number back ∷ [])
unfolding words_of
words_last zero [] back e f = ap (λ l. number l ∷ []) (take_all 8 back (omega arith))
words_last zero (x ∷ front) back e f = absurd (omega arith)
words_last (suc m) front back e f =
    let long : 8 ≤ length front = omega arith in
    ap₂ ◌∷◌ (ap number (take-append-le 8 front back long))
    (ap (words_of (suc m)) (drop-append-le 8 front back long) ∙ words_last m (drop 8 front) back (omega (arith, length-drop 8 front)) f)

-- the words of some rows, from the place `from` on, are read back
pub rows_back : (rows : List ℕ) (from m : ℕ) → from + m ≤ length rows → Below (2 ^ 64) rows
    → words_of m (joined m (λ a. bytes_of 8 (get_or rows (from + a) 0))) ≡ take m (drop from rows)
unfolding joined words_of
rows_back rows from zero l b = refl
rows_back rows from (suc m) l b =
    let parts : ℕ → List ℕ = λ a. bytes_of 8 (get_or rows (from + a) 0) in
    words_last m (joined m parts) (parts m) (joined_length m 8 parts (λ i. bytes_length 8 (get_or rows (from + i) 0))) (bytes_length 8 (get_or rows (from + m) 0))
    ∙ ap₂ (λ ws w. ws ++ (w ∷ [])) (rows_back rows from m (omega arith) b)
    (number_of_bytes 8 (get_or rows (from + m) 0) (b (from + m) (omega arith)) ∙ sym (get_or-drop from rows m 0))
    ∙ sym (take-suc (drop from rows) m 0 (omega (arith, length-drop from rows)))

-- the bytes that m words are read from are those of the words
abbrev WordsBack : ℕ → List ℕ → Type 0
WordsBack m bytes = joined m (λ a. bytes_of 8 (get_or (words_of m bytes) a 0)) ≡ bytes

one_more : (m : ℕ) (front back : List ℕ) → length front ≡ 8 * m → length back ≡ 8 → Below 256 back → WordsBack m front → WordsBack (suc m) (front ++ back)
unfolding joined
one_more m front back front_long back_long b same =
    let last = words_last m front back front_long back_long in
    ap₂ ◌++◌
    (joined_same m (λ a. bytes_of 8 (get_or (words_of (suc m) (front ++ back)) a 0)) (λ a. bytes_of 8 (get_or (words_of m front) a 0)) (λ a l.
    ap (bytes_of 8) (ap (λ ws. get_or ws a 0) last ∙ get_or-append (words_of m front) (number back ∷ []) 0 a (omega (arith, words_length m front))))
    ∙ same)
    (ap (bytes_of 8) (ap (λ ws. get_or ws m 0) last ∙ get_or_at (words_of m front) (number back) [] 0 m (words_length m front))
    ∙ ap (λ k. bytes_of k (number back)) (sym back_long)
    ∙ bytes_of_number back b)

pub words_back : (m : ℕ) (bytes : List ℕ) → length bytes ≡ 8 * m → Below 256 bytes → WordsBack m bytes
unfolding joined
words_back zero [] e b = refl
words_back zero (x ∷ bytes) e b = absurd (omega arith)
words_back (suc m) bytes e b =
    let parts = take-append-drop (8 * m) bytes in
    let front_long : length (take (8 * m) bytes) ≡ 8 * m = length-take-le (8 * m) bytes (omega arith) in
    let bounded : Below 256 (take (8 * m) bytes ++ drop (8 * m) bytes) = rw parts b in
    subst (WordsBack (suc m)) parts
    (one_more m (take (8 * m) bytes) (drop (8 * m) bytes) front_long (omega (arith, length-drop (8 * m) bytes))
    (below_right (take (8 * m) bytes) (drop (8 * m) bytes) bounded)
    (words_back m (take (8 * m) bytes) front_long (below_left (take (8 * m) bytes) (drop (8 * m) bytes) bounded)))
