-- Worked limits, computed from the definition.
use Rattle.std.specs.Prelude.{◌≡◌, ℕ, true, false, List, [], ◌∷◌, ◌++◌, length, replicate, take, map, refl}
use Rattle.circular_buffer.specs.Buffer.{keep_last}
use Rattle.vegas.specs.declared.sample.Sample.{Sample}
use Rattle.vegas.specs.declared.limits.TheConstants.{LAST_SAMPLES}
use Rattle.vegas.specs.Vegas.{place_after, limit_of, noload_of, probes_of, queue, step_size}
use Rattle.vegas.specs.Estimators.{before_last}

abbrev ok : ℕ → ℕ → Sample
ok rtt inflight = record { rtt = rtt; inflight = inflight; dropped = false }

abbrev drop_at : ℕ → ℕ → Sample
drop_at rtt inflight = record { rtt = rtt; inflight = inflight; dropped = true }

-- the limit and the no-load time after the first k samples
abbrev after : ℕ → List Sample → ℕ → ℕ × ℕ
after most xs k = (limit_of most (take k xs), noload_of most (take k xs))

abbrev rising : List Sample
rising = ok 100000 1 ∷ ok 100000 10 ∷ ok 100000 12 ∷ ok 100000 13 ∷ ok 110000 16 ∷ ok 105000 16 ∷ ok 200000 17 ∷ drop_at
    200000 17 ∷ []

worked_rising : map (after 1000 rising) (1 ∷ 2 ∷ 3 ∷ 4 ∷ 5 ∷ 6 ∷ 7 ∷ 8 ∷ [])
    ≡ (20, 100000) ∷ (26, 100000) ∷ (26, 100000) ∷ (32, 100000) ∷ (32, 100000) ∷ (33, 100000) ∷ (32, 100000)
    ∷ (31, 100000) ∷ []
unfolding place_after limit_of noload_of
worked_rising = refl

-- the queues that these samples saw
queues : queue 32 110000 100000 ∷ queue 32 105000 100000 ∷ queue 33 200000 100000 ∷ [] ≡ 3 ∷ 2 ∷ 17 ∷ []
queues = refl

-- the steps at the ends of their ranges
steps : map step_size (1 ∷ 9 ∷ 10 ∷ 99 ∷ 100 ∷ 999 ∷ 1000 ∷ []) ≡ 1 ∷ 1 ∷ 1 ∷ 1 ∷ 2 ∷ 2 ∷ 3 ∷ []
steps = refl

-- the step grows at a limit of 100
abbrev grown : List Sample
grown = ok 100000 1 ∷ replicate 13 (ok 100000 49) ++ ok 101500 49 ∷ ok 101500 50 ∷ ok 100000 50 ∷ []

worked_grown : map (after 1000 grown) (14 ∷ 15 ∷ 16 ∷ 17 ∷ []) ≡ (98, 100000) ∷ (99, 100000) ∷ (100, 100000)
    ∷ (112, 100000) ∷ []
unfolding place_after limit_of noload_of
worked_grown = refl

-- a maximum of one, and the probe at the 30th sample
abbrev of_one : List Sample
of_one = ok 100000 1 ∷ drop_at 200000 1 ∷ replicate 27 (ok 100000 1) ++ ok 300000 1 ∷ ok 200000 1 ∷ []

worked_of_one : map (after 1 of_one) (1 ∷ 2 ∷ 29 ∷ 30 ∷ 31 ∷ []) ≡ (1, 100000) ∷ (1, 100000) ∷ (1, 100000) ∷ (1, 300000)
    ∷ (1, 200000) ∷ []
unfolding place_after limit_of noload_of
worked_of_one = refl

-- a round trip of 0 counts as 1
worked_zero : after 1000 (ok 0 1 ∷ []) 1 ≡ (20, 1)
unfolding place_after limit_of noload_of
worked_zero = refl

-- seventy samples at rest: no probe yet, since 30 * 20 is 600
at_rest : after 1000 (replicate 70 (ok 100000 1)) 70 ≡ (20, 100000)
unfolding place_after limit_of noload_of
at_rest = refl

at_rest_probes : probes_of 1000 (replicate 70 (ok 100000 1)) ≡ 70
unfolding place_after probes_of
at_rest_probes = refl

-- the three numbers before the last samples, how many these are, and the three numbers of now
abbrev numbers : ℕ → List Sample → ℕ × ℕ × ℕ
numbers most xs = (limit_of most xs, noload_of most xs, probes_of most xs)

abbrev explained : ℕ → List Sample → (ℕ × ℕ × ℕ) × ℕ × (ℕ × ℕ × ℕ)
explained most xs = (numbers most (before_last xs), length (keep_last LAST_SAMPLES xs), numbers most xs)

explained_at_rest : explained 1000 (replicate 70 (ok 100000 1)) ≡ ((20, 100000, 6), 64, (20, 100000, 70))
unfolding place_after limit_of noload_of probes_of
explained_at_rest = refl

explained_of_one : explained 1 (replicate 31 (ok 100000 1)) ≡ ((1, 0, 0), 31, (1, 100000, 1))
unfolding place_after limit_of noload_of probes_of
explained_of_one = refl
