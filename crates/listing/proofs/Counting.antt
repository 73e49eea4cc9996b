-- There are exactly 2 ^ n settings of n facts.
use Rattle.std.proofs.Common.{◌≡◌, ℕ, zero, suc, ◌+◌, ◌^◌, ◌<◌, ◌≤◌, Bool, true, false, ◌⊎◌, List, [], ◌∷◌, ◌++◌, map, length, Some, None, Option, sym, refl, ap, ◌∙◌, ap₂, inl, inr, ⊎_elim, pow-suc, arith, length-append, MatchOption}
use lib.ListN.{length-map}
use Rattle.std.specs.Option.{SomeIff}
use Rattle.listing.specs.Members.{In, Distinct}
use Rattle.listing.specs.Settings.{Setting, settings, Counted}

pub in_append_left : {X : Type 0} (x : X) (xs ys : List X) → In x xs → In x (xs ++ ys)
in_append_left x [] ys m = absurd m
in_append_left x (y ∷ xs) ys (inl e) = inl e
in_append_left x (y ∷ xs) ys (inr m) = inr (in_append_left x xs ys m)

pub in_append_right : {X : Type 0} (x : X) (xs ys : List X) → In x ys → In x (xs ++ ys)
in_append_right x [] ys m = m
in_append_right x (y ∷ xs) ys m = inr (in_append_right x xs ys m)

pub in_append : {X : Type 0} (x : X) (xs ys : List X) → In x (xs ++ ys) → In x xs ⊎ In x ys
in_append x [] ys m = inr m
in_append x (y ∷ xs) ys (inl e) = inl (inl e)
in_append x (y ∷ xs) ys (inr m) = ⊎_elim (λ k. inl (inr k)) (λ k. inr k) (in_append x xs ys m)

pub in_map : {X Y : Type 0} (f : X → Y) (x : X) (xs : List X) → In x xs → In (f x) (map f xs)
in_map f x [] m = absurd m
in_map f x (y ∷ xs) (inl e) = inl (ap f e)
in_map f x (y ∷ xs) (inr m) = inr (in_map f x xs m)

pub in_mapped : {X Y : Type 0} (f : X → Y) (y : Y) (xs : List X) → In y (map f xs) → (x : X) × In x xs × (y ≡ f x)
in_mapped f y [] m = absurd m
in_mapped f y (x ∷ xs) (inl e) = (x, inl refl, e)
in_mapped f y (x ∷ xs) (inr m) = let w = in_mapped f y xs m in (w.0, inr w.1, w.2)

distinct_append : {X : Type 0} (xs ys : List X) → Distinct xs → Distinct ys → ((x : X) → In x xs → In x ys → ⊥) → Distinct (xs ++ ys)
distinct_append [] ys dx dy h = dy
distinct_append (x ∷ xs) ys dx dy h =
    ((λ m. ⊎_elim dx.0 (h x (inl refl)) (in_append x xs ys m)), distinct_append xs ys dx.1 dy (λ y m k. h y (inr m) k))

same_tail : (b : Bool) (s z : List Bool) → b ∷ s ≡ b ∷ z → s ≡ z
same_tail b s z e = cc

distinct_led : (b : Bool) (xs : List (List Bool)) → Distinct xs → Distinct (map (λ s. b ∷ s) xs)
distinct_led b [] d = tt
distinct_led b (x ∷ xs) d =
    ((λ m. let w = in_mapped (λ s. b ∷ s) (b ∷ x) xs m in d.0 (lead w.0 w.1 (same_tail b x w.0 w.2))), distinct_led b xs d.1)
  where
    lead : (y : List Bool) → In y xs → x ≡ y → In x xs
    lead y m e = rw e m

apart : (s z : List Bool) → false ∷ s ≡ true ∷ z → ⊥
apart s z e = let w : ◌≡◌ {A = ℕ} 0 1 = cc in omega arith

count_settings : (n : ℕ) → length (settings n) ≡ 2 ^ n
count_settings zero = refl
count_settings (suc n) =
    length-append (map (λ s. false ∷ s) (settings n)) (map (λ s. true ∷ s) (settings n)) ∙
    ap₂ ◌+◌ (length-map (settings n) (λ s. false ∷ s)) (length-map (settings n) (λ s. true ∷ s)) ∙
    rw (count_settings n, pow-suc) (omega arith)

every_setting : (n : ℕ) (s : List Bool) → Setting n s → In s (settings n)
every_setting zero [] e = inl refl
every_setting zero (b ∷ s) e = absurd (omega arith)
every_setting (suc n) [] e = absurd (omega arith)
every_setting (suc n) (false ∷ s) e =
    in_append_left (false ∷ s) (map (λ z. false ∷ z) (settings n)) (map (λ z. true ∷ z) (settings n)) (in_map (λ z. false ∷ z) s (settings n) (every_setting n s (omega arith)))
every_setting (suc n) (true ∷ s) e =
    in_append_right (true ∷ s) (map (λ z. false ∷ z) (settings n)) (map (λ z. true ∷ z) (settings n)) (in_map (λ z. true ∷ z) s (settings n) (every_setting n s (omega arith)))

led : (n : ℕ) (b : Bool) (s : List Bool) → ((z : List Bool) → In z (settings n) → Setting n z) → In s (map (λ z. b ∷ z) (settings n)) → Setting (suc n) s
led n b s ih m =
    let w = in_mapped (λ z. b ∷ z) s (settings n) m in
    ap length w.2 ∙ ap suc (ih w.0 w.1)

only_settings : (n : ℕ) (s : List Bool) → In s (settings n) → Setting n s
only_settings zero s (inl e) = ap length e
only_settings zero s (inr m) = absurd m
only_settings (suc n) s m =
    ⊎_elim (led n false s (only_settings n)) (led n true s (only_settings n)) (in_append s (map (λ z. false ∷ z) (settings n)) (map (λ z. true ∷ z) (settings n)) m)

once_each : (n : ℕ) → Distinct (settings n)
once_each zero = ((λ m. m), tt)
once_each (suc n) =
    distinct_append (map (λ z. false ∷ z) (settings n)) (map (λ z. true ∷ z) (settings n)) (distinct_led false (settings n) (once_each n)) (distinct_led true (settings n) (once_each n))
    (λ s m k.
    let v = in_mapped (λ z. false ∷ z) s (settings n) m in
    let w = in_mapped (λ z. true ∷ z) s (settings n) k in
    apart v.0 w.0 (sym v.2 ∙ w.2))

pub counted : (n : ℕ) → Counted n
counted n = record { count = count_settings n; every = every_setting n; only = only_settings n; once = once_each n }

-- what a checked power tells of the number of settings
pub power_counts : (n : ℕ) (o : Option ℕ) → SomeIff o (2 ^ n < 2 ^ 64) (2 ^ n) → MatchOption o (2 ^ 64 ≤ length (settings n)) (λ c. c ≡ length (settings n))
power_counts n None h = rw (count_settings n) (omega arith)
power_counts n (Some c) h = h.1 ∙ sym (count_settings n)
