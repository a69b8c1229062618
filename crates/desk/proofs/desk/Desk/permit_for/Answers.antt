use Rattle.desk.proofs.Words.{◌≡◌, ◌<◌, ◌+◌, ◌∙◌, ℕ, false, true, List, length, sym, refl, ap, arith, subst, IsTrue}
use Rattle.desk.proofs.Words.{Result, Err, IfSome, MAX_RECORDS, ChangesState, is_held, with_room, record_count}
use Rattle.desk.proofs.Words.{DeskValue, Limiter, limit_by, room_by}
use Rattle.permits.specs.declared.refusal.Refused.{Refused}
use Rattle.permits.specs.declared.refusal.Refused.TheVariants.{AtLimit, TooManyOut, AlreadyOut}
use Rattle.permits.specs.Refusals.{IsAtLimit, IsFull, IsAlreadyOut}
use Rattle.desk.proofs.ClaimLaws.{StartsFrom, pair_held, starts_from}
use Rattle.desk.proofs.TieLaws.{desk_started, still_reserved}
use Rattle.desk.proofs.desk.Desk.permit_for.Goals as goal

abbrev refusing : {A : Type 0} → Refused → Result A Refused
refusing r = Err r

-- the endpoint is below its limit, there is a place, and the delivery isn't out
never_refused : {A : Type 0} (d : DeskValue) (name : List ℕ) (s limit : ℕ) (r : Refused) → StartsFrom d name s
    → limit ≡ limit_by d.limiters name
    → (refusing {A = A} r ≡ Err AtLimit → IsAtLimit name limit d.live)
    → (refusing {A = A} r ≡ Err TooManyOut → IsFull name limit d.live)
    → (refusing {A = A} r ≡ Err AlreadyOut → IsAlreadyOut name s limit d.live) → ⊥
never_refused d name s limit AtLimit from is at full out = omega (arith, at refl, is, from.room)
never_refused d name s limit TooManyOut from is at full out = omega (arith, (full refl).1, from.place)
never_refused d name s limit AlreadyOut from is at full out = let wrong : true ≡ false = sym (out refl).2 ∙ from.free
    in cc

pub unreachable-requires : goal.unreachable-requires
unreachable-requires g c =
    let e = c.in_default.ensures in
    never_refused _ c.args.endpoint c.args.delivery c.limit_of-limit.result c.in_default.field-0
    (starts_from c.args.endpoint c.args.delivery c.self.view_is c.requires.ready)
    (c.limit_of-limit.ensures ∙ ap (λ (limiters : List Limiter). limit_by limiters c.args.endpoint)
    c.deref.ensures.value)
    e.at_limit.0 e.too_many.0 e.already.0

pub dequeue-requires-clause-held : goal.dequeue-requires-clause-held
dequeue-requires-clause-held g c =
    let from = starts_from c.args.endpoint c.args.delivery c.self.view_is c.requires.ready in
    let own = pair_held c.self.inside.queue c.args.endpoint c.args.delivery c.self.invariant.tied.queued.held from in
    subst (λ o. IfSome o (λ pair. IsTrue (is_held c.self.inside.queue pair))) (sym own.1) own.2

pub update_room-requires : goal.update_room-requires
update_room-requires g c =
    still_reserved c.dequeue.new.queue c.args.endpoint c.args.delivery c.self.invariant.tied
    (starts_from c.args.endpoint c.args.delivery c.self.view_is c.requires.ready) c.dequeue.ensures.pair

pub invariant_of-self : goal.invariant_of-self
invariant_of-self g c =
    desk_started c.dequeue.new.queue c.update_room.new.queue c.args.endpoint c.args.delivery c.acquire.new.self
    c.self.invariant
    (starts_from c.args.endpoint c.args.delivery c.self.view_is c.requires.ready)
    (subst (λ (v : DeskValue). record_count v.waiting + length v.live < MAX_RECORDS) (sym c.self.view_is)
    c.requires.room)
    c.in-Ok.ensures.ok c.dequeue.ensures.pair c.dequeue.ensures.places c.update_room.ensures.pairs
    (subst (λ (limiters : List Limiter). ChangesState c.dequeue.new.queue c.update_room.new.queue c.args.endpoint
    (with_room (room_by c.self.inside.endpoints limiters c.acquire.new.self c.args.endpoint)))
    c.deref-2.ensures.value
    c.update_room.ensures.state)
