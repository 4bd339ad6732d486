-- Tests: truth tables, the parts of a conjunction and of a disjunction, a test that fails, a choice by a test, and two tests that hold together. Assumes nothing.
use mathlib.Core.Path.{◌≡◌, refl, sym, ap, ap₂, ◌∙◌}
use mathlib.Core.Bool.{Bool, true, false, not, ◌&&◌, ◌||◌, xor, cond, beq, false≢true, true≢false, and-true, or-false, not-not}

pub and_parts : (a b : Bool) → (a && b) ≡ true → (a ≡ true) × (b ≡ true)
and_parts true b e = (refl, e)
and_parts false b e = absurd (false≢true e)

-- ---- truth tables: two functions of tests are the same where they agree on every row

-- a law of tests is proved by `table₂ _ _ refl`, as the checker computes every row
abbrev pub rows₁ : (Bool → Bool) → (Bool → Bool) → Bool
rows₁ f g = beq (f true) (g true) && beq (f false) (g false)

abbrev pub rows₂ : (Bool → Bool → Bool) → (Bool → Bool → Bool) → Bool
rows₂ f g = rows₁ (f true) (g true) && rows₁ (f false) (g false)

abbrev pub rows₃ : (Bool → Bool → Bool → Bool) → (Bool → Bool → Bool → Bool) → Bool
rows₃ f g = rows₂ (f true) (g true) && rows₂ (f false) (g false)

abbrev pub rows₄ : (Bool → Bool → Bool → Bool → Bool) → (Bool → Bool → Bool → Bool → Bool) → Bool
rows₄ f g = rows₃ (f true) (g true) && rows₃ (f false) (g false)

pub beq_true : (a b : Bool) → beq a b ≡ true → a ≡ b
beq_true true true e = refl
beq_true true false e = sym e
beq_true false true e = e
beq_true false false e = refl

pub beq_self : (a : Bool) → beq a a ≡ true
beq_self true = refl
beq_self false = refl

pub table₁ : (f g : Bool → Bool) → rows₁ f g ≡ true → (a : Bool) → f a ≡ g a
table₁ f g e true = beq_true (f true) (g true) (and_parts (beq (f true) (g true)) (beq (f false) (g false)) e).0
table₁ f g e false = beq_true (f false) (g false) (and_parts (beq (f true) (g true)) (beq (f false) (g false)) e).1

pub table₂ : (f g : Bool → Bool → Bool) → rows₂ f g ≡ true → (a b : Bool) → f a b ≡ g a b
table₂ f g e true = table₁ (f true) (g true) (and_parts (rows₁ (f true) (g true)) (rows₁ (f false) (g false)) e).0
table₂ f g e false = table₁ (f false) (g false) (and_parts (rows₁ (f true) (g true)) (rows₁ (f false) (g false)) e).1

pub table₃ : (f g : Bool → Bool → Bool → Bool) → rows₃ f g ≡ true → (a b c : Bool) → f a b c ≡ g a b c
table₃ f g e true = table₂ (f true) (g true) (and_parts (rows₂ (f true) (g true)) (rows₂ (f false) (g false)) e).0
table₃ f g e false = table₂ (f false) (g false) (and_parts (rows₂ (f true) (g true)) (rows₂ (f false) (g false)) e).1

pub table₄ : (f g : Bool → Bool → Bool → Bool → Bool) → rows₄ f g ≡ true → (a b c d : Bool) → f a b c d ≡ g a b c d
table₄ f g e true = table₃ (f true) (g true) (and_parts (rows₃ (f true) (g true)) (rows₃ (f false) (g false)) e).0
table₄ f g e false = table₃ (f false) (g false) (and_parts (rows₃ (f true) (g true)) (rows₃ (f false) (g false)) e).1

-- the same of the rows on which a test t fails
rest : (t x y : Bool) → (t || x) ≡ (t || y) → t ≡ false → x ≡ y
rest t x y e q = sym (ap (λ (b : Bool). b || x) q) ∙ e ∙ ap (λ (b : Bool). b || y) q

pub unless₃ : (t f g : Bool → Bool → Bool → Bool) → rows₃ (λ a b c. t a b c || f a b c) (λ a b c. t a b c || g a b c) ≡ true
    → (a b c : Bool) → t a b c ≡ false → f a b c ≡ g a b c
unless₃ t f g e a b c = rest (t a b c) (f a b c) (g a b c) (table₃ (λ a b c. t a b c || f a b c) (λ a b c. t a b c || g a b c) e a b c)

pub unless₄ : (t f g : Bool → Bool → Bool → Bool → Bool) → rows₄ (λ a b c d. t a b c d || f a b c d) (λ a b c d. t a b c d || g a b c d) ≡ true
    → (a b c d : Bool) → t a b c d ≡ false → f a b c d ≡ g a b c d
unless₄ t f g e a b c d =
    rest (t a b c d) (f a b c d) (g a b c d) (table₄ (λ a b c d. t a b c d || f a b c d) (λ a b c d. t a b c d || g a b c d) e a b c d)

-- ---- laws that the library does not have

pub xor_self : (a : Bool) → xor a a ≡ false
unfolding xor
xor_self = table₁ _ _ refl

pub xor_none : (a : Bool) → xor a false ≡ a
unfolding xor
xor_none = table₁ _ _ refl

pub none_xor : (a : Bool) → xor false a ≡ a
unfolding xor
none_xor = table₁ _ _ refl

pub xor_all : (a : Bool) → xor a true ≡ not a
unfolding xor
xor_all = table₁ _ _ refl

pub xor_twice : (a b : Bool) → xor a (xor a b) ≡ b
unfolding xor
xor_twice = table₂ _ _ refl

pub xor_back : (a b : Bool) → xor (xor a b) b ≡ a
unfolding xor
xor_back = table₂ _ _ refl

pub xor_same : (a b : Bool) → a ≡ b → xor a b ≡ false
xor_same a b e = ap (λ (x : Bool). xor x b) e ∙ xor_self b

pub not_and : (a b : Bool) → not (a && b) ≡ (not a || not b)
not_and = table₂ _ _ refl

pub not_or : (a b : Bool) → not (a || b) ≡ (not a && not b)
not_or = table₂ _ _ refl

-- the second part is needed only where the first holds
pub and_cong : (a a' b b' : Bool) → a ≡ a' → (a' ≡ true → b ≡ b') → (a && b) ≡ (a' && b')
and_cong true true b b' e f = f refl
and_cong true false b b' e f = absurd (true≢false e)
and_cong false true b b' e f = absurd (false≢true e)
and_cong false false b b' e f = refl

-- ---- parts

pub both : {a b : Bool} → a ≡ true → b ≡ true → (a && b) ≡ true
both p q = ap₂ ◌&&◌ p q

-- the second part does not hold, or not together with the first
pub and_second : (a : Bool) {b : Bool} → b ≡ false → (a && b) ≡ false
and_second true e = e
and_second false e = refl

pub and_apart : (a b : Bool) → (b ≡ true → a ≡ false) → (a && b) ≡ false
and_apart true true h = h refl
and_apart true false h = refl
and_apart false b h = refl

pub apart_and : (a b : Bool) → (a && b) ≡ false → b ≡ true → a ≡ false
apart_and a b e q = sym (and-true a) ∙ ap (λ (x : Bool). a && x) (sym q) ∙ e

pub or_none : (a b : Bool) → (a || b) ≡ false → (a ≡ false) × (b ≡ false)
or_none true b e = absurd (true≢false e)
or_none false b e = (refl, e)

-- a second part that does not hold
pub or_first : (a : Bool) {b : Bool} → b ≡ false → (a || b) ≡ a
or_first a e = ap (λ (x : Bool). a || x) e ∙ or-false a

pub none_or : {a b : Bool} → a ≡ false → b ≡ false → (a || b) ≡ false
none_or p q = ap₂ ◌||◌ p q

pub or_left : {a : Bool} (b : Bool) → a ≡ true → (a || b) ≡ true
or_left b e = ap (λ (x : Bool). x || b) e

pub or_right : (a : Bool) {b : Bool} → b ≡ true → (a || b) ≡ true
or_right true e = refl
or_right false e = e

-- where the first part does not hold, the second does
pub or_second : (a b : Bool) → (a || b) ≡ true → a ≡ false → b ≡ true
or_second a b e f = sym (ap (λ (x : Bool). x || b) f) ∙ e

pub xor_false : (a b : Bool) → xor a b ≡ false → a ≡ b
unfolding xor
xor_false a b e = beq_true a b (sym (not-not (beq a b)) ∙ ap not e)

pub not_held : (b : Bool) → (b ≡ true → ⊥) → b ≡ false
not_held true h = absurd (h refl)
not_held false h = refl

pub refuted : {b : Bool} → b ≡ false → b ≡ true → ⊥
refuted e q = false≢true (sym e ∙ q)

-- what holds where a test is true and where it is false
pub either {ℓ} : {P : Type ℓ} (b : Bool) → (b ≡ true → P) → (b ≡ false → P) → P
either true p q = p refl
either false p q = q refl

-- two tests of which each implies the other
pub same_test : (a b : Bool) → (a ≡ true → b ≡ true) → (b ≡ true → a ≡ true) → a ≡ b
same_test true b f g = sym (f refl)
same_test false true f g = g refl
same_test false false f g = refl

-- the first part holds where the second does
pub and_within : (a b : Bool) → (b ≡ true → a ≡ true) → (a && b) ≡ b
and_within a b h = same_test (a && b) b (λ e. (and_parts a b e).1) (λ e. both (h e) e)

-- a choice whose test is known
pub cond-true {ℓ} : {A : Type ℓ} (b : Bool) (x y : A) → b ≡ true → cond b x y ≡ x
cond-true b x y e = ap (λ (t : Bool). cond t x y) e

pub cond-false {ℓ} : {A : Type ℓ} (b : Bool) (x y : A) → b ≡ false → cond b x y ≡ y
cond-false b x y e = ap (λ (t : Bool). cond t x y) e
