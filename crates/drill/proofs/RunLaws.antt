-- A run in which memory and the store served has the replies that the moves compute.
use Rattle.std.proofs.Common.{◌≡◌, ℕ, true, false, List, [], ◌∷◌, Option, Some, None, inl, inr, refl, sym, ap, ◌∙◌}
use Rattle.std.specs.List.{list_all}
use Rattle.std.proofs.lemmas.Bool.{and_parts}
use Rattle.script_lines.specs.declared.call.Call.{Call}
use Rattle.script_lines.specs.declared.call.Call.TheVariants as on
use Rattle.script_lines.specs.declared.reply.Reply.{Reply}
use Rattle.desk.specs.World.{Out, Nothing, Batch, Receipt, Doubt}
use Rattle.permits.specs.declared.row.Row.{Row}
use Rattle.retry_table.specs.declared.post.PostResult.{PostResult}
use Rattle.drill.specs.Moves.{Session, IsOneOf, lacks, commits, settles, unseals, halts, spends, permit_of, answer_to}
use Rattle.drill.specs.Runs.{CallMove, replies_of, is_served, AreServedRunsComputed}

-- each of these replies reports out of memory or a fault of the store
abbrev AreUnserved : List (Reply × Session) → Type 0
AreUnserved [] = Unit {0}
AreUnserved (one ∷ others) = (is_served one.0 ≡ false) × AreUnserved others

served_is_not_unserved : (unserved : List (Reply × Session)) (reply : Reply) (next : Session) → AreUnserved unserved
    → IsOneOf unserved reply next → is_served reply ≡ true → ⊥
served_is_not_unserved [] reply next all_unserved one served = one
served_is_not_unserved (one ∷ others) reply next all_unserved (inl (e, f)) served = let no : true ≡ false = sym served
    ∙ ap is_served e
    ∙ all_unserved.0 in cc
served_is_not_unserved (one ∷ others) reply next all_unserved (inr more) served = served_is_not_unserved others reply
    next all_unserved.1 more served

lacks_unserved : (s : Session) (memory : Option ℕ) → AreUnserved (lacks s memory)
lacks_unserved s None = tt
lacks_unserved s (Some number) = (refl, tt)

commits_unserved : (s : Session) (o : Out) → AreUnserved (commits s o).unserved
commits_unserved s Nothing = tt
commits_unserved s Batch = (refl, (refl, tt))
commits_unserved s Receipt = tt
commits_unserved s Doubt = tt

settles_unserved : (s : Session) (o : Out) → AreUnserved (settles s o).unserved
settles_unserved s Nothing = tt
settles_unserved s Batch = tt
settles_unserved s Receipt = tt
settles_unserved s Doubt = tt

unseals_unserved : (s : Session) (o : Out) → AreUnserved (unseals s o).unserved
unseals_unserved s Nothing = tt
unseals_unserved s Batch = tt
unseals_unserved s Receipt = tt
unseals_unserved s Doubt = tt

halts_unserved : (s : Session) (o : Out) → AreUnserved (halts s o).unserved
halts_unserved s Nothing = tt
halts_unserved s Batch = tt
halts_unserved s Receipt = tt
halts_unserved s Doubt = tt

spends_unserved : (s : Session) (post : PostResult) (now : ℕ) (permit : Option Row)
    → AreUnserved (spends s permit post now).unserved
spends_unserved s post now None = tt
spends_unserved s post now (Some row) = tt

all_unserved : (s : Session) (event : Call) → AreUnserved (answer_to s event).unserved
all_unserved s (on.Put name target max secrets) = lacks_unserved s _
all_unserved s (on.Secrets name secrets) = lacks_unserved s _
all_unserved s (on.Enabled name flag) = lacks_unserved s _
all_unserved s (on.Subscribed topic name flag) = lacks_unserved s _
all_unserved s (on.Purge before) = lacks_unserved s _
all_unserved s (on.Submit now name id body) = lacks_unserved s _
all_unserved s (on.Publish now topic id body) = lacks_unserved s _
all_unserved s (on.Told seq) = tt
all_unserved s (on.Claim now) = lacks_unserved s _
all_unserved s (on.Spend delivery now post) = spends_unserved s post now (permit_of s.world delivery)
all_unserved s (on.Limits name) = tt
all_unserved s on.Seal = lacks_unserved s _
all_unserved s on.Commit = commits_unserved s s.world.out
all_unserved s on.Settle = settles_unserved s s.world.out
all_unserved s on.Unseal = unseals_unserved s s.world.out
all_unserved s on.Halt = halts_unserved s s.world.out
all_unserved s (on.ShowEndpoint name) = tt
all_unserved s (on.Show name id) = tt

served_move : (s : Session) (event : Call) (reply : Reply) (next : Session) → CallMove s event reply next
    → is_served reply ≡ true → (reply ≡ (answer_to s event).reply) × (next ≡ (answer_to s event).next)
served_move s event reply next (inl given) served = given
served_move s event reply next (inr one) served = absurd
    (served_is_not_unserved (answer_to s event).unserved reply next (all_unserved s event) one served)

pub served_runs_are_computed : AreServedRunsComputed
served_runs_are_computed s [] [] last run served = refl
served_runs_are_computed s (event ∷ events) (reply ∷ replies) last (next, move, run) served =
    let both = and_parts (is_served reply) (list_all is_served replies) served in
    let here = served_move s event reply next move both.0 in
    let rest = served_runs_are_computed next events replies last run both.1 in
    λ i. here.0 i ∷ (rest ∙ ap (λ n. replies_of n events) here.1) i
served_runs_are_computed s [] (reply ∷ replies) last run served = absurd run
served_runs_are_computed s (event ∷ events) [] last run served = absurd run
