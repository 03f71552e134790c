-- The order of two fractions, by their whole parts and then by their remainders.
use Rattle.std.proofs.Common.{◌≡◌, ℕ, suc, ◌+◌, ◌*◌, ◌/◌, ◌%◌, ◌<◌, ◌≤◌, Bool, true, false, T, ltb, ◌≢◌, sym, refl, ap, ◌∙◌, inl, inr, le_trans, le_of_eq, lt_of_lt_of_le, mul-le-mul_right, div-lt_iff_lt-mul, add-mul, mul-lt-mul_of_pos_right, div-add-mod', mul_right_comm, div-mul-le_self, arith, ltb→lt, lt→ltb}
use Rattle.std.proofs.lemmas.Bool.{cases_lt}

same_bool : (a b : Bool) → (T a → T b) → (T b → T a) → a ≡ b
same_bool true true f g = refl
same_bool true false f g = absurd (f tt)
same_bool false true f g = absurd (g tt)
same_bool false false f g = refl

same-ltb : (a b c d : ℕ) → (a < b → c < d) → (c < d → a < b) → ltb a b ≡ ltb c d
same-ltb a b c d f g = same_bool (ltb a b) (ltb c d) (λ t. lt→ltb c d (f (ltb→lt a b t))) (λ t. lt→ltb a b (g (ltb→lt c d t)))

-- Equal whole parts: the remainders decide.
pub by-remainders : (a b c d : ℕ) → a / b ≡ c / d → ltb (a % b * d) (c % d * b) ≡ ltb (a * d) (c * b)
by-remainders a b c d e =
    let w = c / d in
    let x : w * b * d + a % b * d ≡ a * d = sym (add-mul (w * b) (a % b) d) ∙ ap (λ (z : ℕ). z * d) (ap (λ (z : ℕ). z * b + a % b) (sym e) ∙ div-add-mod' a b) in
    let y : w * d * b + c % d * b ≡ c * b = sym (add-mul (w * d) (c % d) b) ∙ ap (λ (z : ℕ). z * b) (div-add-mod' c d) in
    let s : w * b * d ≡ w * d * b = mul_right_comm w b d in
    same-ltb (a % b * d) (c % d * b) (a * d) (c * b) (λ h. omega arith) (λ h. omega arith)

whole-less : (a b c d : ℕ) → 0 < b → 0 < d → a / b < c / d → a * d < c * b
whole-less a b c d B D h =
    let x : a < suc (a / b) * b = (div-lt_iff_lt-mul B).0 (omega arith) in
    let y : a < c / d * b = lt_of_lt_of_le x (mul-le-mul_right b h) in
    let z : a * d < c / d * b * d = mul-lt-mul_of_pos_right y D in
    lt_of_lt_of_le z (le_trans (le_of_eq (mul_right_comm (c / d) b d)) (mul-le-mul_right b (div-mul-le_self c d)))

-- Other whole parts decide alone.
pub by-wholes : (a b c d : ℕ) → 0 < b → 0 < d → a / b ≢ c / d → ltb (a / b) (c / d) ≡ ltb (a * d) (c * b)
by-wholes a b c d B D n = same-ltb (a / b) (c / d) (a * d) (c * b) (whole-less a b c d B D) back
  where
    back : a * d < c * b → a / b < c / d
    back h = elim (cases_lt (a / b) (c / d)) [ inl l ↦ l | inr g ↦ (let k = whole-less c d a b D B (omega arith) in omega arith) ]

less-of-scaled : (a b q : ℕ) → a * q < b * q → a < b
less-of-scaled a b q h = elim (cases_lt a b) [ inl l ↦ l | inr g ↦ (let k = mul-le-mul_right q g in omega arith) ]

-- x / p ≤ y / q < z / r
pub through-lt : (x y z p q r : ℕ) → 0 < p → x * q ≤ y * p → y * r < z * q → x * r < z * p
through-lt x y z p q r P h k =
    let a : x * r * q ≡ x * q * r = mul_right_comm x r q in
    let b : x * q * r ≤ y * p * r = mul-le-mul_right r h in
    let c : y * p * r ≡ y * r * p = mul_right_comm y p r in
    let d : y * r * p < z * q * p = mul-lt-mul_of_pos_right k P in
    let e : z * q * p ≡ z * p * q = mul_right_comm z q p in
    less-of-scaled (x * r) (z * p) q (omega arith)

-- x / p ≤ y / q ≤ z / r
pub through-le : (x y z p q r : ℕ) → 0 < q → x * q ≤ y * p → y * r ≤ z * q → x * r ≤ z * p
through-le x y z p q r Q h k =
    elim (cases_lt (z * p) (x * r)) [
      | inl l ↦ (let a : x * r * q ≡ x * q * r = mul_right_comm x r q in
          let b : x * q * r ≤ y * p * r = mul-le-mul_right r h in
          let c : y * p * r ≡ y * r * p = mul_right_comm y p r in
          let d : y * r * p ≤ z * q * p = mul-le-mul_right p k in
          let e : z * q * p ≡ z * p * q = mul_right_comm z q p in
          let f : z * p * q < x * r * q = mul-lt-mul_of_pos_right l Q in absurd (omega arith))
      | inr g ↦ g
    ]
