-- The queue and the step size as the code finds them.
use Rattle.std.proofs.Common.{◌≡◌, ℕ, zero, suc, ◌+◌, ◌-◌, ◌*◌, ◌^◌, ◌≤◌, ◌<◌, max, true, false, nat_le, nat_lt, arith}
use Rattle.std.proofs.Common.{ap, ◌∙◌}
use Rattle.std.proofs.Math.Nat.{pow-suc, pow-le-pow_right, mul-le-mul_right}
use Rattle.std.proofs.Math.Decide.{dec_le}
use Rattle.std.proofs.lemmas.Bool.Decides.{nat_tests}
use Rattle.vegas.specs.Vegas.{queue, step_size}
use Rattle.vegas.proofs.LeastLaws.{least-is}

-- a number whose round trips make up the wait, by less than one round trip more
pub queue-is : (limit r noload q : ℕ) → limit * (r - noload) ≤ q * r → q * r < limit * (r - noload) + r
    → queue limit r noload ≡ q
queue-is limit r noload q enough close = least-is _ limit q below (λ _. passes) before
  where
    below : q ≤ limit
    below = grind (arith, mul-le-mul_right)

    passes : nat_le (limit * (r - noload)) (q * r) ≡ true
    passes = grind (arith, nat_tests)

    before : (k : ℕ) → k < q → nat_le (limit * (r - noload)) (k * r) ≡ false
    before k h = let more : (k + 1) * r ≤ q * r = mul-le-mul_right r (omega (arith, h)) in grind (arith, nat_tests)

-- a power of ten is above its exponent
pub ten_power : (e : ℕ) → e < 10 ^ e
ten_power zero = omega arith
ten_power (suc e) = omega (arith, ten_power e, pow-suc 10 e)

-- the whole part of the logarithm
pub logarithm-is : (limit e : ℕ) → 10 ^ e ≤ limit → limit < 10 * 10 ^ e → step_size limit ≡ max e 1
logarithm-is limit e low high = ap (max 1) (least-is _ limit e (omega (arith, ten_power e)) (λ _. passes) before)
    ∙ omega arith
  where
    passes : nat_lt limit (10 ^ (e + 1)) ≡ true
    passes = grind (arith, nat_tests, pow-suc 10 e)

    before : (k : ℕ) → k < e → nat_lt limit (10 ^ (k + 1)) ≡ false
    before k h = let less : 10 ^ (k + 1) ≤ 10 ^ e = pow-le-pow_right (omega arith) (omega (arith, h))
        in grind (arith, nat_tests)

-- a limit of at most 1000 has a logarithm of at most 3
pub logarithm-most : (limit e : ℕ) → 10 ^ e ≤ limit → limit ≤ 1000 → e ≤ 3
logarithm-most limit e low high = elim (dec_le e 3) [ yes h ↦ h | no h ↦ absurd (above (omega (arith, h))) ]
  where
    above : ¬ (4 ≤ e)
    above h = let more : 10 ^ 4 ≤ 10 ^ e = pow-le-pow_right (omega arith) h in omega (arith, more, low, high)
