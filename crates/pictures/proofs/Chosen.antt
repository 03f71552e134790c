-- What an answered value says of the test that chose it.
use Rattle.std.proofs.Common.{◌≡◌, Bool, true, false, cond, Some, None, refl, sym}
use Rattle.std.proofs.lemmas.Option.{cond_some, none-some}

-- The value stands where the test fails.
pub some-unless : {X : Type 0} (b : Bool) (x y : X) → Some x ≡ cond b None (Some y) → (b ≡ false) × (x ≡ y)
some-unless true x y e = absurd (none-some x (sym e))
some-unless false x y e = (refl, cc)

-- The value stands where the test passes.
pub some-where : {X : Type 0} (b : Bool) (x y : X) → Some x ≡ cond b (Some y) None → (b ≡ true) × (x ≡ y)
some-where b x y e = let q = cond_some b y x (sym e) in (q.0, sym q.1)
