-- Lists that are taken from their ends.
use Rattle.std.proofs.Common.{◌≡◌, List, [], ◌∷◌, ◌++◌, length, map, refl, sym, ap, ◌∙◌, append_assoc, length-append, arith}
use Rattle.std.specs.List.{AllByRecursion}
use Rattle.pts_serve.specs.Workers.{turned}

pub map_back : {A B : Type 0} (f : A → B) (xs : List A) (x : A) → map f (xs ++ x ∷ []) ≡ map f xs ++ f x ∷ []
map_back f [] x = refl
map_back f (y ∷ xs) x = ap (λ z. f y ∷ z) (map_back f xs x)

turned_back : {A : Type 0} (xs : List A) (x : A) → turned (xs ++ x ∷ []) ≡ x ∷ turned xs
turned_back [] x = refl
turned_back (y ∷ xs) x = ap (λ z. z ++ y ∷ []) (turned_back xs x)

-- The last of one list becomes the last of another.
pub moved : {A B X : Type 0} (g : X → B) (f : A → B) (front : List X) (x : X) (ws : List A) (w : A) → g x ≡ f w → map g front ++ turned (map f (ws ++ w ∷ [])) ≡ map g (front ++ x ∷ []) ++ turned (map f ws)
moved g f front x ws w e =
    ap (λ z. map g front ++ z) (ap turned (map_back f ws w) ∙ (turned_back (map f ws) (f w) ∙ ap (λ b. b ∷ turned (map f ws)) (sym e)))
    ∙ (sym (append_assoc (map g front) (g x ∷ []) (turned (map f ws))) ∙ ap (λ z. z ++ turned (map f ws)) (sym (map_back g front x)))

pub moved_itself : {A B : Type 0} (f : A → B) (front : List B) (x : B) (ws : List A) (w : A) → x ≡ f w → front ++ turned (map f (ws ++ w ∷ [])) ≡ (front ++ x ∷ []) ++ turned (map f ws)
moved_itself f front x ws w e =
    ap (λ z. front ++ z) (ap turned (map_back f ws w) ∙ (turned_back (map f ws) (f w) ∙ ap (λ b. b ∷ turned (map f ws)) (sym e))) ∙ sym (append_assoc front (x ∷ []) (turned (map f ws)))

-- The last of one list goes behind the others.
pub given : {A B X : Type 0} (g : X → B) (f : A → B) (taken : List X) (x : X) (front : List A) (w : A) → g x ≡ f w → map g (taken ++ x ∷ []) ++ turned (map f front) ≡ map g taken ++ turned (map f (front ++ w ∷ []))
given g f taken x front w e = sym (
    ap (λ z. map g taken ++ z) (ap turned (map_back f front w) ∙ (turned_back (map f front) (f w) ∙ ap (λ b. b ∷ turned (map f front)) (sym e)))
    ∙ (sym (append_assoc (map g taken) (g x ∷ []) (turned (map f front))) ∙ ap (λ z. z ++ turned (map f front)) (sym (map_back g taken x)))
    )

pub given_itself : {A B : Type 0} (f : A → B) (taken : List B) (x : B) (front : List A) (w : A) → x ≡ f w → (taken ++ x ∷ []) ++ turned (map f front) ≡ taken ++ turned (map f (front ++ w ∷ []))
given_itself f taken x front w e = sym (moved_itself f taken x front w e)

last_of : {A : Type 0} → A → List A → A
last_of d [] = d
last_of d (x ∷ xs) = last_of x xs

front_of : {A : Type 0} → List A → List A
front_of [] = []
front_of (x ∷ []) = []
front_of (x ∷ (y ∷ ys)) = x ∷ front_of (y ∷ ys)

last_back : {A : Type 0} (d : A) (xs : List A) (x : A) → last_of d (xs ++ x ∷ []) ≡ x
unfolding last_of
last_back d [] x = refl
last_back d (y ∷ xs) x = last_back y xs x

front_back : {A : Type 0} (xs : List A) (x : A) → front_of (xs ++ x ∷ []) ≡ xs
unfolding front_of
front_back [] x = refl
front_back (y ∷ []) x = refl
front_back (y ∷ (z ∷ xs)) x = ap (λ l. y ∷ l) (front_back (z ∷ xs) x)

pub backs_same : {A : Type 0} (xs ys : List A) (x y : A) → xs ++ x ∷ [] ≡ ys ++ y ∷ [] → (xs ≡ ys) × (x ≡ y)
backs_same xs ys x y e = (sym (front_back xs x) ∙ (ap front_of e ∙ front_back ys y), sym (last_back x xs x) ∙ (ap (last_of x) e ∙ last_back x ys y))

pub all_back : {A : Type 0} (P : A → Type 0) (xs : List A) (x : A) → AllByRecursion P xs → P x → AllByRecursion P (xs ++ x ∷ [])
all_back P [] x h p = (p, tt)
all_back P (y ∷ xs) x h p = (h.0, all_back P xs x h.1 p)

all_front : {A : Type 0} (P : A → Type 0) (xs : List A) (x : A) → AllByRecursion P (xs ++ x ∷ []) → AllByRecursion P xs × P x
all_front P [] x h = (tt, h.0)
all_front P (y ∷ xs) x h = let r = all_front P xs x h.1 in ((h.0, r.0), r.1)

pub all_turned : {A : Type 0} (P : A → Type 0) (xs : List A) → AllByRecursion P xs → AllByRecursion P (turned xs)
all_turned P [] h = tt
all_turned P (x ∷ xs) h = all_back P (turned xs) x (all_turned P xs h.1) h.0

pub all_of_turned : {A : Type 0} (P : A → Type 0) (xs : List A) → AllByRecursion P (turned xs) → AllByRecursion P xs
all_of_turned P [] h = tt
all_of_turned P (x ∷ xs) h = let r = all_front P (turned xs) x h in (r.1, all_of_turned P xs r.0)

-- What holds of the images of elements.
pub all_map : {A B : Type 0} (f : A → B) (P : B → Type 0) (xs : List A) → AllByRecursion P (map f xs) → AllByRecursion (λ x. P (f x)) xs
all_map f P [] h = tt
all_map f P (x ∷ xs) h = (h.0, all_map f P xs h.1)

pub map_all : {A B : Type 0} (f : A → B) (P : B → Type 0) (xs : List A) → AllByRecursion (λ x. P (f x)) xs → AllByRecursion P (map f xs)
map_all f P [] h = tt
map_all f P (x ∷ xs) h = (h.0, map_all f P xs h.1)

pub turned_length : {A : Type 0} (xs : List A) → length (turned xs) ≡ length xs
turned_length [] = refl
turned_length (x ∷ xs) = let e = turned_length xs in omega (arith, length-append (turned xs) (x ∷ []))

pub map_turned : {A B : Type 0} (f : A → B) (xs : List A) → map f (turned xs) ≡ turned (map f xs)
map_turned f [] = refl
map_turned f (x ∷ xs) = map_back f (turned xs) x ∙ ap (λ z. z ++ f x ∷ []) (map_turned f xs)

pub map_map : {A B C : Type 0} (f : A → B) (g : B → C) (xs : List A) → map g (map f xs) ≡ map (λ x. g (f x)) xs
map_map f g [] = refl
map_map f g (x ∷ xs) = ap (λ z. g (f x) ∷ z) (map_map f g xs)
