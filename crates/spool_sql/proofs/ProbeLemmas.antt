-- ROLLBACK, asked for rows.
use Rattle.std.proofs.Common.{◌≡◌, ◌≢◌, ◌⊎◌, inl, inr, ℕ, List, [], codes, None, Ok, Err, refl, sym, subst, ◌∙◌, arith}
use Rattle.sqlite.specs.declared.error.Error.{Error}
use Rattle.sqlite.specs.declared.error.Error.TheVariants.{InvalidQuery}
use Rattle.sqlite_trees.specs.declared.error.StoreError.{StoreError}
use Rattle.sqlite_trees.specs.declared.error.StoreError.TheVariants.{OutOfMemory, Io, Corrupt, Full, Broken, Unstorable}
use Rattle.sqlite.specs.Command.TheVariants.{Rollback}
use Rattle.sqlite.specs.Order.{Row}
use Rattle.sqlite.specs.Schema.{Schema}
use Rattle.sqlite.specs.Listing.{understood}
use Rattle.sqlite.specs.State.{State, Shown, Survives, CommitsShowing, FailsToQuery, IsNotRun, IsNoStatement}
use Rattle.sqlite.specs.State.{IsUnchanged, Fails, store_error}
use Rattle.sqlite_resolve.specs.declared.compiled.Compiled.{Compiled}
use Rattle.sqlite.proofs.Callers.{IsPlain, never_commits}
use Rattle.sqlite_tied.specs.Compute.{everything}

abbrev pub rollback_text : List ℕ
rollback_text = codes "ROLLBACK"

abbrev rollback : Compiled
rollback = record { command = Rollback; names = []; formats = []; returning = None; start = 0; end = 8; tail = 8 }

rollback_is : (schema : Schema) → understood schema rollback_text ≡ Ok rollback
unfolding understood everything
rollback_is schema = refl

same_compiled : (schema : Schema) (c : Compiled) → understood schema rollback_text ≡ Ok c → c ≡ rollback
same_compiled schema c is = let both : Ok c ≡ Ok rollback = sym is ∙ rollback_is schema in cc

-- it is one statement with no parameter and reads no time
never_no_statement : (s : State) (e : Error) → ¬ IsNoStatement s rollback_text [] e
never_no_statement s e (inl h) = let both : Err h.0 ≡ Ok rollback = sym h.1 ∙ rollback_is s.now.schema in absurd cc
never_no_statement s e (inr h) =
    let c = same_compiled s.now.schema h.0 h.1 in
    elim h.2 [
      | inl several ↦ several.0 (rw c (omega arith))
      | inr (inl counts) ↦ counts.0 (rw c refl)
      | inr (inr clock) ↦ clock.0 (rw c refl)
    ]

never_named : (cause : StoreError) → InvalidQuery ≢ store_error cause
never_named OutOfMemory e = cc
never_named Io e = cc
never_named Corrupt e = cc
never_named Full e = cc
never_named Broken e = cc
never_named Unstorable e = cc

-- it shows no rows
pub never_shown : (old new : State) (rows : List Row) → ¬ Shown rollback_text [] old new rows
unfolding Shown
never_shown old new rows h =
    let c = same_compiled old.now.schema h.0 h.1.is in
    (rw c at h.2).2

-- so it is refused as no query, with nothing changed, or the store fails
pub probed : (old new : State) (e : Error) → FailsToQuery rollback_text [] old new e
    → ((e ≡ InvalidQuery) × IsUnchanged old new) ⊎ Fails old new ⊥ e
unfolding FailsToQuery IsNotRun
probed old new e (inl (inl h)) = absurd (never_no_statement old e h.0)
probed old new e (inl (inr h)) = inr h
probed old new e (inr h) =
    let c = same_compiled old.now.schema h.0 h.1.is in
    let it = rw c at h.2 in
    inl (it.2, it.3)

pub probed_open : (old new : State) → FailsToQuery rollback_text [] old new InvalidQuery → IsUnchanged old new
probed_open old new h = elim (probed old new InvalidQuery h) [
  | inl same ↦ same.1
  | inr failed ↦ absurd (never_named failed.0 failed.1)
]

pub probed_failed : (old new : State) (e : Error) → e ≢ InvalidQuery → FailsToQuery rollback_text [] old new e
    → Fails old new ⊥ e
probed_failed old new e other h = elim (probed old new e h) [ inl same ↦ absurd (other same.0) | inr failed ↦ failed ]

-- and it commits nothing
pub probe_survives : (old new : State) → Survives old new (CommitsShowing rollback_text [] old)
    → Survives old new (λ _. ⊥)
probe_survives old new s = record {
  clean = s.clean;
  shield = s.shield;
  counts = s.counts;
  limit = s.limit;
  closes = s.closes;
  crash = λ clean db may. elim (s.crash clean db may) [
    | inl was ↦ inl was
    | inr shows ↦ absurd (never_commits rollback_text [] old db
        (subst IsPlain (sym (rollback_is old.now.schema)) (refl, refl)) shows)
  ];
}
