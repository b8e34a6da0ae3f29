-- Looking back over the placed boats, one look at a time: the checks made so far, before those that the boats further on come to.
use mathlib.Core.Path.{◌≡◌, refl, sym, ap, ◌∙◌, subst}
use mathlib.Core.Bool.{Bool, true, false}
use mathlib.Core.List.{List, [], ◌∷◌, ◌++◌, append_assoc}
use mathlib.Core.Option.{none, some}
use Prim.Native.Nat.{ℕ, suc, ◌+◌, ◌-◌, ◌≤◌, ◌<◌}
use native.Mathlib.Omega.{arith}
use native.Mathlib.Numerals.{add-one}
use lib.ListN.{length, take, drop, length-append, length-drop, drop_of_length-le}
use lib.Seq.{length-take-le, get_or-take, drop-cons}
use Rattle.problem.specs.Tables.{Tables, is_listed}
use Rattle.problem.specs.declared.Allowance.{Allowance}
use Rattle.problem.specs.declared.Allowance.TheVariants.{Checks}
use Rattle.events.specs.declared.Counts.{Counts}
use Rattle.std.specs.Prelude.{Option, Some, None}
use Rattle.events.specs.Events.{Event, check, trials_of, trials}
use Rattle.events.specs.Counts.{check_counted, Fits, Makes, StopsIn}
use Rattle.events.proofs.Counting.{trials_append}
use Rattle.events.proofs.Leading.{makes_none, makes_append, makes_eq, makes_check, check_stops, stops_behind, stops_eq, stops_count, length_made}
use Rattle.methods.specs.Choices.{may_stand}
use Rattle.methods.specs.BT.{Looked, look_at, look_back}
use Rattle.words.specs.Layout.{word}
use Rattle.visits.specs.declared.Look.{Look}
use Rattle.visits.specs.declared.Look.TheVariants.{Allowed, Forbidden, OutOfChecks}
use Rattle.visits.specs.Looks.{checked_look}

-- what a look comes to, by the pair: an unlisted one costs no check
abbrev pub look_of : (listed may : Bool) → Counts → Look
look_of false may m = Allowed m
look_of true may m = checked_look may (check_counted m)

-- what the code's look says of the counts
allowed_case : (o : Bool) (c : Option Counts) (k : Counts) → checked_look o c ≡ Allowed k → (o ≡ true) × (c ≡ Some k)
allowed_case true (Some n) k e = (refl, cc)
allowed_case false (Some n) k e = let z : ◌≡◌ {A = ℕ} 0 1 = cc in absurd (omega arith)
allowed_case true None k e = let z : ◌≡◌ {A = ℕ} 0 1 = cc in absurd (omega arith)
allowed_case false None k e = let z : ◌≡◌ {A = ℕ} 0 1 = cc in absurd (omega arith)

forbidden_case : (o : Bool) (c : Option Counts) (k : Counts) → checked_look o c ≡ Forbidden k → (o ≡ false) × (c ≡ Some k)
forbidden_case true (Some n) k e = let z : ◌≡◌ {A = ℕ} 0 1 = cc in absurd (omega arith)
forbidden_case false (Some n) k e = (refl, cc)
forbidden_case true None k e = let z : ◌≡◌ {A = ℕ} 0 1 = cc in absurd (omega arith)
forbidden_case false None k e = let z : ◌≡◌ {A = ℕ} 0 1 = cc in absurd (omega arith)

out_case : (o : Bool) (c : Option Counts) → checked_look o c ≡ OutOfChecks → c ≡ None
out_case true (Some n) e = let z : ◌≡◌ {A = ℕ} 0 1 = cc in absurd (omega arith)
out_case false (Some n) e = let z : ◌≡◌ {A = ℕ} 0 1 = cc in absurd (omega arith)
out_case o None e = refl

-- ---- checks that are made before what is found further on
abbrev pub behind : List Event → Looked → Looked
behind es r = record { checks = es ++ r.checks; failing = r.failing }

behind_more : (es : List Event) (e : Event) (r : Looked) → behind es (behind (e ∷ []) r) ≡ behind (es ++ (e ∷ [])) r
behind_more es e r = ap (λ (l : List Event). record { checks = l; failing = r.failing }) (sym (append_assoc es (e ∷ []) r.checks))

-- a boat is looked at once at most
looks_few : (t : Tables) (i a h : ℕ) (xs : List ℕ) → length (look_back t i a h xs).checks ≤ length xs
unfolding look_back
looks_few t i a h [] = omega arith
looks_few t i a h (x ∷ xs) = by (is_listed t.pairs h i) (may_stand t h x i a) (looks_few t i a (suc h) xs)
  where
    by : (l o : Bool) → length (look_back t i a (suc h) xs).checks ≤ length xs →
        length (look_at h (check h x i a) l o (look_back t i a (suc h) xs)).checks ≤ suc (length xs)
    by false o k = omega arith
    by true true k = omega arith
    by true false k = omega arith

-- so of the looks of a choice fewer are made than there are boats, where the next one is not
pub looks_made_few : (t : Tables) (w : List ℕ) (i a h : ℕ) → i ≤ length w → {m n : Counts} {which : Allowance} {d : ℕ} →
    StopsIn m (look_back t i a h (drop h (take i w))).checks which d n → d < i
looks_made_few t w i a h le z =
    omega
    (arith, z.count, simp length-append at (ap length z.split), looks_few t i a h (drop h (take i w)), length-drop h (take i w), length-take-le i w le)

-- choice a of boat i: `whole` is what its looks come to, from the counts m on; the boats below h have been looked at, and the counts are n
pub record Looking (t : Tables) (w : List ℕ) (i a : ℕ) (whole : Looked) (m : Counts) (h : ℕ) (n : Counts) : Type 0 where
  pub made : List Event
  pub only : trials made ≡ 0
  pub split : whole ≡ behind made (look_back t i a h (drop h (take i w)))
  pub makes : Makes m made n

-- at the first look
pub looks_begin : (t : Tables) (w : List ℕ) (i a h : ℕ) (m : Counts) → Fits m → Looking t w i a (look_back t i a h (drop h (take i w))) m h m
unfolding trials_of
looks_begin t w i a h m f = record { made = []; only = refl; split = refl; makes = makes_none m f }

module _ {t : Tables} {w : List ℕ} {i a : ℕ} {whole : Looked} {m : Counts} {h : ℕ} {n : Counts} (le : i ≤ length w) (b : Looking t w i a whole m h n) where
  -- as many checks are made as the count has risen
  pub looks_made : length b.made ≡ n.checks - m.checks
  looks_made = length_made b.makes b.only

  -- past the last placed boat: nobody fails
  pub looks_end : i ≤ h → (whole.failing ≡ none) × Makes m whole.checks n
  unfolding look_back
  looks_end lh =
      let e : whole ≡ behind b.made (record { checks = []; failing = none }) =
      b.split ∙ ap (λ (xs : List ℕ). behind b.made (look_back t i a h xs)) (drop_of_length-le (take i w) {i = h} (omega (arith, length-take-le i w le))) in
      (ap (λ (r : Looked). r.failing) e, makes_eq (sym (ap (λ (r : Looked). r.checks) e)) (makes_append b.makes (makes_none n b.makes.fits)))

  module _ (lh : h < i) where
    at_next : drop h (take i w) ≡ word w h ∷ drop (suc h) (take i w)
    at_next = drop-cons (take i w) h 0 (omega (arith, length-take-le i w le)) ∙ ap (λ (x : ℕ). x ∷ drop (suc h) (take i w)) (get_or-take i w h 0 lh)

    -- what is found further on
    abbrev rest : Looked
    rest = look_back t i a (suc h) (drop (suc h) (take i w))

    abbrev due : Event
    due = check h (word w h) i a

    open_look : (l o : Bool) → is_listed t.pairs h i ≡ l → may_stand t h (word w h) i a ≡ o → whole ≡ behind b.made (look_at h due l o rest)
    unfolding look_back
    open_look l o el eo =
        b.split ∙ ap (λ (xs : List ℕ). behind b.made (look_back t i a h xs)) at_next
        ∙ ap (λ (x : Bool). behind b.made (look_at h due x (may_stand t h (word w h) i a) rest)) el
        ∙ ap (λ (x : Bool). behind b.made (look_at h due l x rest)) eo

    -- an unlisted boat costs no check
    pub looks_past : is_listed t.pairs h i ≡ false → Looking t w i a whole m (suc h) n
    looks_past e = record { made = b.made; only = b.only; split = open_look false _ e refl; makes = b.makes }

    module _ (r : Look) (k : Counts) (e : r ≡ look_of (is_listed t.pairs h i) (may_stand t h (word w h) i a) n) where
      -- one check more
      counted : check_counted n ≡ Some k → Makes m (b.made ++ (due ∷ [])) k
      counted c = makes_append b.makes (makes_check n k b.makes.fits h (word w h) i a c)

      one_more : trials (b.made ++ (due ∷ [])) ≡ 0
      unfolding trials_of
      one_more = trials_append b.made (due ∷ []) ∙ ap (λ (x : ℕ). x + 0) b.only

      pub looks_allowed : r ≡ Allowed k → Looking t w i a whole m (h + 1) k
      looks_allowed f = rw add-one (by (is_listed t.pairs h i) refl (sym e ∙ f))
        where
          by : (l : Bool) → is_listed t.pairs h i ≡ l → look_of l (may_stand t h (word w h) i a) n ≡ Allowed k → Looking t w i a whole m (suc h) k
          by false el g = let z : n ≡ k = cc in subst (λ (x : Counts). Looking t w i a whole m (suc h) x) z (looks_past el)
          by true el g =
              let q = allowed_case (may_stand t h (word w h) i a) (check_counted n) k g in
              record {
                made = b.made ++ (due ∷ []);
                only = one_more;
                split = open_look true true el q.0 ∙ behind_more b.made due rest;
                makes = counted q.1;
              }

      pub looks_forbidden : r ≡ Forbidden k → (whole.failing ≡ some h) × Makes m whole.checks k
      looks_forbidden f = by (is_listed t.pairs h i) refl (sym e ∙ f)
        where
          by : (l : Bool) → is_listed t.pairs h i ≡ l → look_of l (may_stand t h (word w h) i a) n ≡ Forbidden k → (whole.failing ≡ some h) × Makes m whole.checks k
          by false el g = let z : ◌≡◌ {A = ℕ} 0 1 = cc in absurd (omega arith)
          by true el g =
              let q = forbidden_case (may_stand t h (word w h) i a) (check_counted n) k g in
              let s = open_look true false el q.0 in
              (ap (λ (x : Looked). x.failing) s, makes_eq (sym (ap (λ (x : Looked). x.checks) s)) (counted q.1))

    -- the next check is not covered: the counts stay
    pub looks_out : look_of (is_listed t.pairs h i) (may_stand t h (word w h) i a) n ≡ OutOfChecks → StopsIn m whole.checks Checks (n.checks - m.checks) n
    looks_out = by (is_listed t.pairs h i) refl
      where
        stopped : check_counted n ≡ None → (es : List Event) → whole.checks ≡ b.made ++ due ∷ es → StopsIn m whole.checks Checks (n.checks - m.checks) n
        stopped c es s =
            let z : length b.made + 0 ≡ n.checks - m.checks = omega (arith, looks_made) in
            stops_eq (sym s) (stops_count z (stops_behind b.makes (check_stops n b.makes.fits h (word w h) i a es c)))

        on : (o : Bool) → may_stand t h (word w h) i a ≡ o → is_listed t.pairs h i ≡ true → check_counted n ≡ None → StopsIn m whole.checks Checks (n.checks - m.checks) n
        on true eo el c = stopped c rest.checks (ap (λ (x : Looked). x.checks) (open_look true true el eo))
        on false eo el c = stopped c [] (ap (λ (x : Looked). x.checks) (open_look true false el eo))

        by : (l : Bool) → is_listed t.pairs h i ≡ l → look_of l (may_stand t h (word w h) i a) n ≡ OutOfChecks → StopsIn m whole.checks Checks (n.checks - m.checks) n
        by false el g = let z : ◌≡◌ {A = ℕ} 0 1 = cc in absurd (omega arith)
        by true el g = on (may_stand t h (word w h) i a) refl el (out_case (may_stand t h (word w h) i a) (check_counted n) g)
