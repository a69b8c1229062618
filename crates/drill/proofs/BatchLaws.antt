-- A core and its session after the calls on a batch: it is sealed, settled, taken back or given up.
use Rattle.std.proofs.Common.{◌≡◌, ℕ, ◌+◌, ◌≤◌, ◌==◌, Bool, true, false, not, [], ◌∷◌, ◌++◌, length, take, drop, Option}
use Rattle.std.proofs.Common.{Some, None, Result, Ok, Err, inl, inr, refl, sym, ap, subst, ◌∙◌, append_assoc}
use Rattle.std.proofs.Common.{length-append}
use mathlib.Core.Logic.{∥∥₁_elim, ∥∥₁_map}
use Rattle.std.specs.Prelude.{if◌then◌else◌, List, IsPermutation, IsSomeAnd, option_map}
use Rattle.std.specs.Coded.{Coded, Coded-set, codes}
use Rattle.std.proofs.lemmas.List.Sorted.{IsPermutation-refl}
use Rattle.permits.specs.declared.row.Row.{Row}
use Rattle.group_commit.specs.declared.held.Held as waiting
use Rattle.group_commit.specs.declared.held.Held.TheVariants as waiting_held
use Rattle.group_commit.specs.Waits.{WaitingValue, batch_of, batch_out}
use Rattle.group_commit.specs.Turns as turns
use Rattle.std.proofs.lemmas.List.{take-append-drop, take-take}
use Rattle.relay_types.specs.Records.{History, records_of}
use Rattle.spool.specs.Batches.{BatchValue, DoubtValue, doubt_of}
use Rattle.script_lines.specs.declared.reply.Reply.{Reply}
use Rattle.script_lines.specs.declared.reply.Reply.TheVariants as says
use Rattle.desk.specs.declared.refusal.Fault.TheVariants as desk_fault
use Rattle.desk.specs.declared.refusal.Refusal.{Refusal}
use Rattle.desk.specs.World.{World, Out, Nothing, Batch, Receipt, Doubt, settled_records, sealed_records}
use Rattle.desk.specs.Moves as desk
use Rattle.desk.specs.Moves.{MayGive, refused, seal, seal_waiting, sealed_batch, with_batch, with_sealed_settled}
use Rattle.desk.specs.Moves.{with_batch_back, with_halt, is_nothing_out}
use Rattle.desk.specs.Desks.{StandsFor, IsMove, IsReceiptOf, ArePlacesOf, IsHeldOf, IsAllOut, KeepsOut, OverWorlds}
use Rattle.drill.specs.declared.calls.Core.{Core}
use Rattle.drill.specs.declared.held.Held.{Held}
use Rattle.drill.specs.declared.held.Held.TheVariants as held
use Rattle.drill.specs.Tickets.{KeepsTickets}
use Rattle.drill.specs.Moves.{Session, Answer, MayReply, moves, tells, seal_reply, settles, unseals, halts}
use Rattle.drill.specs.Moves.{unsealed_reply}
use Rattle.drill.specs.Cores.{IsHeld, AreOnePerDelivery, CoreStandsFor, CoreAnswers, HoldsAll, HoldsOut, IsCore}
use Rattle.drill.specs.Cores.{HandsOver, RefusesHandOver, receipt_of, given_of}
use Rattle.drill.proofs.CoreLaws.{still_holds_all, tells_given}

pub is_nothing : (o : Out) → is_nothing_out o ≡ true → o ≡ Nothing
is_nothing Nothing h = refl
is_nothing Batch h = absurd (let e = h in cc)
is_nothing Receipt h = absurd (let e = h in cc)
is_nothing Doubt h = absurd (let e = h in cc)

-- the answer to a seal by the world's flags
abbrev pub answer_by : (mark : ℕ) (w : World) (halted nothing idle : Bool) → desk.Answer (Option BatchValue)
answer_by mark w halted nothing idle =
    if halted then refused w 1 desk_fault.Halted else
    (if not nothing then refused w 2 desk_fault.BatchOut else seal_waiting mark w idle)

-- the reply about a batch doesn't show its mark
same_seal : (mark : ℕ) (s : Session) → tells seal_reply s (seal mark s.world) ≡ tells seal_reply s (seal 0 s.world)
same_seal mark s = at s.world.halted (is_nothing_out s.world.out) (length s.world.history == s.world.settled)
  where
    at : (halted nothing idle : Bool) → tells seal_reply s (answer_by mark s.world halted nothing idle)
        ≡ tells seal_reply s (answer_by 0 s.world halted nothing idle)
    at true nothing idle = refl
    at false false idle = refl
    at false true true = refl
    at false true false = refl

may_seal : (mark : ℕ) (s : Session) (result : Result (Option BatchValue) Refusal) (next : World)
    → MayGive s.world (seal mark s.world) result next
    → MayReply (tells seal_reply s (seal 0 s.world)) (seal_reply result) (record s { world = next })
may_seal mark s result next given =
    subst (λ answer. MayReply answer (seal_reply result) (record s { world = next })) (same_seal mark s)
    (tells_given seal_reply s (seal mark s.world) result next (λ r. refl) given)

abbrev sealing : BatchValue → Result (Option BatchValue) Refusal
sealing batch = Ok (Some batch)

-- the facts if a batch is handed out
record IsSealing (mark : ℕ) (w : World) (batch : BatchValue) (next : World) : Type 0 where
  nothing : w.out ≡ Nothing
  going : w.halted ≡ false
  next_is : next ≡ with_batch w
  batch_is : batch ≡ sealed_batch mark (with_batch w)

sealed_move : (mark : ℕ) (w : World) (batch : BatchValue) (next : World) → MayGive w (seal mark w) (sealing batch) next
    → IsSealing mark w batch next
sealed_move mark w batch next = at w.halted (is_nothing_out w.out) (length w.history == w.settled) refl
    (is_nothing w.out)
  where
    same : (a b : BatchValue) → sealing a ≡ sealing b → a ≡ b
    same a b e = cc

    at : (halted nothing idle : Bool) → w.halted ≡ halted → (nothing ≡ true → w.out ≡ Nothing)
        → MayGive w (answer_by mark w halted nothing idle) (sealing batch) next → IsSealing mark w batch next
    at true nothing idle going h (inl given) = absurd (let e = given.0 in cc)
    at true nothing idle going h (inr without) = absurd without
    at false false idle going h (inl given) = absurd (let e = given.0 in cc)
    at false false idle going h (inr without) = absurd without
    at false true true going h (inl given) = absurd (let e = given.0 in cc)
    at false true true going h (inr without) = absurd without
    at false true false going h (inl given) = record {
      nothing = h refl;
      going = going;
      next_is = given.1;
      batch_is =
          same batch (sealed_batch mark (with_batch w)) given.0;
    }
    at false true false going h (inr without) = absurd (let e = without.0 in cc)

-- whether a batch was handed out
abbrev pub is_sealed : Result (Option BatchValue) Refusal → Bool
is_sealed (Ok None) = false
is_sealed (Ok (Some batch)) = true
is_sealed (Err r) = false

unsealed_move : (mark : ℕ) (w : World) (result : Result (Option BatchValue) Refusal) (next : World)
    → is_sealed result ≡ false → MayGive w (seal mark w) result next → next ≡ w
unsealed_move mark w result next unsealed = at w.halted (is_nothing_out w.out) (length w.history == w.settled)
  where
    at : (halted nothing idle : Bool) → MayGive w (answer_by mark w halted nothing idle) result next → next ≡ w
    at true nothing idle (inl given) = given.1
    at true nothing idle (inr without) = absurd without
    at false false idle (inl given) = given.1
    at false false idle (inr without) = absurd without
    at false true true (inl given) = given.1
    at false true true (inr without) = absurd without
    at false true false (inl given) = absurd (let no : true ≡ false = ap is_sealed (sym given.0) ∙ unsealed in cc)
    at false true false (inr without) = without.1

pub answers_sealed : {L : Type 0} (old new : Core L) (batch : BatchValue) → IsMove old.desk (seal old.desk.waiting.mark)
    (Ok (Some batch)) new.desk → new.desk.waiting.mark ≡ old.desk.waiting.mark
    → new.desk.live ≡ old.desk.live → batch_out new.desk.waiting ≡ Some batch → new.permits.items ≡ old.permits.items
    → new.tickets ≡ old.tickets → new.held ≡ held.Batch batch
    → CoreAnswers old (λ s. tells seal_reply s (seal 0 s.world)) (seal_reply (Ok (Some batch))) new
answers_sealed old new batch moved mark live out permits tickets same = record {
  mark = mark;
  keeps = λ core. ∥∥₁_map core (λ (h : HoldsAll old). record {
    permits = permits ∙ h.permits ∙ sym live;
    out = subst (HoldsOut (batch_out new.desk.waiting)) (sym same) out;
  });
  moves = λ s on.
      let move = moved s.world on.desk in
      let made = sealed_move old.desk.waiting.mark s.world batch move.0 move.1 in
      let has : batch ≡ sealed_batch new.desk.waiting.mark (with_batch s.world) = made.batch_is
      ∙ ap (λ m. sealed_batch m (with_batch s.world)) (sym mark) in (
        record s { world = with_batch s.world },
        may_seal old.desk.waiting.mark s (sealing batch) (with_batch s.world)
            (subst (MayGive s.world (seal old.desk.waiting.mark s.world) (sealing batch)) made.next_is move.1),
        record {
          desk = subst (StandsFor new.desk) made.next_is move.2;
          held = subst (IsHeld new.desk.waiting.mark (with_batch s.world)) (sym same) (refl, has);
          permits = permits ∙ on.permits;
          once = on.once;
          tickets = subst (λ t. KeepsTickets t s.tickets) (sym tickets) on.tickets;
        },
      );
}

pub answers_unsealed : {L : Type 0} (old new : Core L) (result : Result (Option BatchValue) Refusal)
    → is_sealed result ≡ false → IsMove old.desk (seal old.desk.waiting.mark) result new.desk
    → new.desk.waiting.mark ≡ old.desk.waiting.mark → KeepsOut old.desk new.desk → new.permits.items ≡ old.permits.items
    → new.tickets ≡ old.tickets → new.held ≡ old.held
    → CoreAnswers old (λ s. tells seal_reply s (seal 0 s.world)) (seal_reply result) new
answers_unsealed old new result unsealed moved mark out permits tickets same = record {
  mark = mark;
  keeps = still_holds_all old new out same permits;
  moves = λ s on.
      let move = moved s.world on.desk in
      let stayed = unsealed_move old.desk.waiting.mark s.world result move.0 unsealed move.1 in (
        s,
        may_seal old.desk.waiting.mark s result s.world
            (subst (MayGive s.world (seal old.desk.waiting.mark s.world) result) stayed move.1),
        record {
          desk = subst (StandsFor new.desk) stayed move.2;
          held = subst (λ m. IsHeld m s.world new.held) (sym mark)
              (subst (IsHeld old.desk.waiting.mark s.world) (sym same) on.held);
          permits = permits ∙ on.permits;
          once = on.once;
          tickets = subst (λ t. KeepsTickets t s.tickets) (sym tickets) on.tickets;
        },
      );
}

-- The records of a batch

pub flatten_both : (xs ys : History) → records_of (xs ++ ys) ≡ records_of xs ++ records_of ys
flatten_both [] ys = refl
flatten_both (x ∷ xs) ys = ap (λ r. x ++ r) (flatten_both xs ys) ∙ sym (append_assoc x (records_of xs) (records_of ys))

pub split_at : (n : ℕ) (xs : History) → records_of (take n xs) ++ records_of (drop n xs) ≡ records_of xs
split_at n xs = sym (flatten_both (take n xs) (drop n xs)) ∙ ap records_of (take-append-drop n xs)

-- the first records and those up to a later mark
pub prefix_and_batch : (xs : History) (from to : ℕ) → from ≤ to
    → records_of (take from xs) ++ records_of (drop from (take to xs)) ≡ records_of (take to xs)
prefix_and_batch xs from to below = ap (λ front. records_of front ++ records_of (drop from (take to xs)))
    (sym (take-take from to xs below)) ∙ split_at from (take to xs)

-- the settled records and those of the batch are the sealed ones
pub settled_and_batch : (mark : ℕ) (w : World) → w.settled ≤ w.sealed
    → settled_records w ++ records_of (sealed_batch mark w).steps ≡ sealed_records w
settled_and_batch mark w below = prefix_and_batch w.history w.settled w.sealed below

-- and a prefix of all
pub sealed_is_prefix : (w : World) → sealed_records w ++ records_of (drop w.sealed w.history) ≡ records_of w.history
sealed_is_prefix w = split_at w.sealed w.history

-- Turns that end

-- nothing is held then, and the desk represents the world after the call
ended : {L : Type 0} (old new : Core L) (s : Session) (next : World) → CoreStandsFor old s → StandsFor new.desk next
    → next.out ≡ Nothing → next.live ≡ s.world.live
    → new.permits.items ≡ old.permits.items → new.tickets ≡ old.tickets → new.held ≡ held.Nothing
    → CoreStandsFor new (record s { world = next })
ended old new s next on desk out live permits tickets same = record {
  desk = desk;
  held = subst (IsHeld new.desk.waiting.mark next) (sym same) out;
  permits = permits ∙ on.permits ∙ sym live;
  once = subst AreOnePerDelivery (sym live) on.once;
  tickets = subst (λ t. KeepsTickets t s.tickets) (sym tickets) on.tickets;
}

-- whatever was read of the store
ended_holds_all : {L : Type 0} (old new : Core L) → new.desk.live ≡ old.desk.live → new.desk.waiting.out ≡ None
    → new.permits.items ≡ old.permits.items → new.held ≡ held.Nothing → IsCore old → IsCore new
ended_holds_all old new live out permits same core = ∥∥₁_map core (λ (h : HoldsAll old). record {
  permits = permits ∙ h.permits ∙ sym live;
  out = subst (HoldsOut (batch_out new.desk.waiting)) (sym same) (ap (option_map (batch_of new.desk.waiting)) out);
})

-- what is held is at the places of what is out
are_places : (mark : ℕ) (w : World) (batch : BatchValue) → IsHeld mark w (held.Batch batch)
    → ArePlacesOf mark w (doubt_of batch)
are_places mark w batch h = (ap is_nothing_out h.0, ap doubt_of h.1)

pub answers_settled : {L : Type 0} (old new : Core L) (receipt : BatchValue) (records : ℕ)
    → held.Receipt receipt ≡ old.held
    → OverWorlds old.desk (λ w. IsReceiptOf old.desk.waiting.mark w receipt
    × StandsFor new.desk (with_sealed_settled w)) → OverWorlds old.desk (λ w. records ≡ length (sealed_records w))
    → new.desk.waiting.mark ≡ old.desk.waiting.mark → new.desk.live ≡ old.desk.live → new.desk.waiting.out ≡ None
    → new.permits.items ≡ old.permits.items → new.tickets ≡ old.tickets → new.held ≡ held.Nothing
    → CoreAnswers old (λ s. settles s s.world.out) (says.SettledTo records) new
answers_settled old new receipt records was moved counts mark live out permits tickets same = record {
  mark = mark;
  keeps = ended_holds_all old new live out permits same;
  moves = λ s on.
      let had = subst (IsHeld old.desk.waiting.mark s.world) (sym was) on.held in
      let next = with_sealed_settled s.world in (
        record s { world = next },
        subst (λ o. MayReply (settles s o) (says.SettledTo records) (record s { world = next })) (sym had.0)
            (inl (ap says.SettledTo (counts s.world on.desk), refl)),
        ended old new s next on (moved s.world on.desk).1 refl refl permits tickets same,
      );
}

pub answers_taken_back : {L : Type 0} (old new : Core L) (batch : BatchValue) (from to : ℕ)
    → held.Batch batch ≡ old.held → from ≡ batch.from → to ≡ (doubt_of batch).upto
    → OverWorlds old.desk (λ w. ArePlacesOf old.desk.waiting.mark w (doubt_of batch)
    × StandsFor new.desk (with_batch_back w))
    → new.desk.waiting.mark ≡ old.desk.waiting.mark → new.desk.live ≡ old.desk.live → new.desk.waiting.out ≡ None
    → new.permits.items ≡ old.permits.items → new.tickets ≡ old.tickets → new.held ≡ held.Nothing
    → CoreAnswers old (λ s. unseals s s.world.out) (says.Unsealed from to) new
answers_taken_back old new batch from to was first last moved mark live out permits tickets same = record {
  mark = mark;
  keeps = ended_holds_all old new live out permits same;
  moves = λ s on.
      let had = subst (IsHeld old.desk.waiting.mark s.world) (sym was) on.held in
      let next = with_batch_back s.world in
      let steps = records_of (sealed_batch old.desk.waiting.mark s.world).steps in
      let upto : length (settled_records s.world) + length steps ≡ length (sealed_records s.world) =
      sym (length-append (settled_records s.world) steps)
      ∙ ap length (settled_and_batch old.desk.waiting.mark s.world on.desk.waiting.settled_first) in
      let told : says.Unsealed from to ≡ unsealed_reply s.world =
      (λ i. says.Unsealed (first i) (last i)) ∙ ap (λ (b : BatchValue). says.Unsealed b.from (doubt_of b).upto) had.1
      ∙ ap (says.Unsealed (length (settled_records s.world))) upto in (
        record s { world = next },
        subst (λ o. MayReply (unseals s o) (says.Unsealed from to) (record s { world = next })) (sym had.0)
            (inl (told, refl)),
        ended old new s next on (moved s.world on.desk).1 refl refl permits tickets same,
      );
}

-- What is held is what is out

-- the batch that is out has so many of the steps that wait
out_at : (w : WaitingValue) (batch : BatchValue) → batch_out w ≡ Some batch → turns.IsReceiptOf w batch
out_at w batch = at w.out
  where
    one : {X : Type 0} {x y : X} → Some x ≡ Some y → y ≡ x
    one e = cc

    at : (o : Option ℕ) → option_map (batch_of w) o ≡ Some batch → IsSomeAnd o (λ count. batch ≡ batch_of w count)
    at None e = cc
    at (Some count) e = one e

places_at : (w : WaitingValue) (doubt : DoubtValue) → option_map doubt_of (batch_out w) ≡ Some doubt
    → turns.ArePlacesOf w doubt
places_at w doubt = at w.out
  where
    one : {X : Type 0} {x y : X} → Some x ≡ Some y → y ≡ x
    one e = cc

    at : (o : Option ℕ) → option_map doubt_of (option_map (batch_of w) o) ≡ Some doubt
        → IsSomeAnd o (λ count. doubt ≡ doubt_of (batch_of w count))
    at None e = cc
    at (Some count) e = one e

none_out : (w : WaitingValue) → batch_out w ≡ None → w.out ≡ None
none_out w = at w.out
  where
    at : (o : Option ℕ) → option_map (batch_of w) o ≡ None → o ≡ None
    at None e = refl
    at (Some count) e = cc

pub all_out : (w : WaitingValue) (now : Held) → HoldsOut (batch_out w) now → IsAllOut w (receipt_of now) (given_of now)
all_out w held.Nothing h = none_out w h
all_out w (held.Batch batch) h = places_at w (doubt_of batch) (ap (option_map doubt_of) h)
all_out w (held.Receipt receipt) h = out_at w receipt h
all_out w (held.Doubt doubt) h = places_at w doubt h

-- Halts

-- if it isn't a receipt, the desk takes it
haltable_out : (w : WaitingValue) (now : Held) → receipt_of now ≡ None → HoldsOut (batch_out w) now
    → turns.IsHeldOf w (given_of now)
haltable_out w held.Nothing e h = none_out w h
haltable_out w (held.Batch batch) e h = places_at w (doubt_of batch) (ap (option_map doubt_of) h)
haltable_out w (held.Receipt receipt) e h = absurd (let no : Some receipt ≡ None = e in cc)
haltable_out w (held.Doubt doubt) e h = places_at w doubt h

-- the facts of a held thing that isn't a receipt
record IsHaltable (mark : ℕ) (s : Session) (now : Held) : Type 0 where
  out : IsHeldOf mark s.world (given_of now)
  answer : halts s s.world.out ≡ moves s says.Halted (with_halt s.world)

is_haltable : (mark : ℕ) (s : Session) (now : Held) → receipt_of now ≡ None → IsHeld mark s.world now
    → IsHaltable mark s now
is_haltable mark s held.Nothing e h = record { out = ap is_nothing_out h; answer = ap (halts s) h }
is_haltable mark s (held.Batch batch) e h = record { out = are_places mark s.world batch h; answer = ap (halts s) h.0 }
is_haltable mark s (held.Receipt receipt) e h = absurd (let no : Some receipt ≡ None = e in cc)
is_haltable mark s (held.Doubt doubt) e h = record { out = (ap is_nothing_out h.0, h.1); answer = ap (halts s) h.0 }

pub answers_halted : {L : Type 0} (old new : Core L) (now gone : Held) (reply : Reply) → now ≡ old.held
    → gone ≡ held.Nothing → receipt_of now ≡ None → HandsOver (record old { held = gone }) (given_of now) reply new
    → new.desk.waiting.mark ≡ old.desk.waiting.mark → new.desk.live ≡ old.desk.live
    → (turns.IsHeldOf old.desk.waiting (given_of now) → (new.held ≡ gone) × (new.desk.waiting.out ≡ None))
    → new.permits.items ≡ old.permits.items → new.tickets ≡ old.tickets
    → CoreAnswers old (λ s. halts s s.world.out) reply new
answers_halted old new now gone reply was nothing none over mark live gives permits tickets = record {
  mark = mark;
  keeps = λ core. ∥∥₁_map core (λ (h : HoldsAll old).
      let (same, out) = gives
      (haltable_out old.desk.waiting now none (subst (HoldsOut (batch_out old.desk.waiting)) (sym was) h.out))
      in record {
        permits = permits ∙ h.permits ∙ sym live;
        out = subst (HoldsOut (batch_out new.desk.waiting)) (sym (same ∙ nothing))
            (ap (option_map (batch_of new.desk.waiting)) out);
      });
  moves = λ s on.
      let may = is_haltable old.desk.waiting.mark s now none
      (subst (IsHeld old.desk.waiting.mark s.world) (sym was) on.held) in
      let done = over s.world on.desk may.out in
      let next = with_halt s.world in (
        record s { world = next },
        subst (λ answer. MayReply answer reply (record s { world = next })) (sym may.answer) (inl (done.0, refl)),
        ended old new s next on done.2 refl refl permits tickets (done.1 ∙ nothing),
      );
}

-- A receipt is held, so what is out isn't given up.
pub answers_not_halted : {L : Type 0} (old middle : Core L) (gone : Held) (receipt : BatchValue) (reply : Reply)
    → held.Receipt receipt ≡ old.held → RefusesHandOver (record old { held = gone }) waiting_held.Nothing reply middle
    → (¬ turns.IsHeldOf old.desk.waiting waiting_held.Nothing → middle.desk ≡ old.desk)
    → middle.desk.waiting.mark ≡ old.desk.waiting.mark
    → middle.permits.items ≡ old.permits.items → middle.tickets ≡ old.tickets
    → CoreAnswers old (λ s. halts s s.world.out) reply (record middle { held = held.Receipt receipt })
answers_not_halted old middle gone receipt reply was over kept mark permits tickets = record {
  mark = mark;
  keeps = λ core. ∥∥₁_map core (λ (h : HoldsAll old).
      let out : batch_out old.desk.waiting ≡ Some receipt = subst (HoldsOut (batch_out old.desk.waiting))
      (sym was) h.out in
      let same = kept (λ idle. let no : None ≡ Some receipt = sym (ap (option_map (batch_of old.desk.waiting)) idle)
      ∙ out in cc) in record {
        permits = permits ∙ h.permits ∙ ap (λ d. d.live) (sym same);
        out = ap (λ d. batch_out d.waiting) same ∙ out;
      });
  moves = λ s on.
      let had : (s.world.out ≡ Receipt) × (receipt ≡ sealed_batch old.desk.waiting.mark s.world) = subst
      (IsHeld old.desk.waiting.mark s.world) (sym was) on.held in
      let (told, stands) = over s.world on.desk (λ idle. let no : false ≡ true = sym (ap is_nothing_out had.0) ∙ idle
      in cc) in (
        s,
        subst (λ o. MayReply (halts s o) reply s) (sym had.0) (inl (told, refl)),
        record {
          desk = stands;
          held = (had.0, had.1 ∙ ap (λ m. sealed_batch m s.world) (sym mark));
          permits = permits ∙ on.permits;
          once = on.once;
          tickets = subst (λ t. KeepsTickets t s.tickets) (sym tickets) on.tickets;
        },
      );
}

-- All that is out is held: two proofs of it are one

prop_at : {X : Type 0} → Coded X → (o : Option ℕ) (a : X) (f : ℕ → X) → (x y : IsSomeAnd o (λ n. a ≡ f n)) → x ≡ y
prop_at code None a f x y = absurd x
prop_at code (Some n) a f x y = Coded-set code a (f n) x y

prop_all_out : (w : WaitingValue) (receipt : Option BatchValue) (given : waiting.Held)
    → (x y : IsAllOut w receipt given) → x ≡ y
prop_all_out w None waiting_held.Nothing = Coded-set (Prim.hlevel codes) w.out None
prop_all_out w None (waiting_held.Batch batch) = prop_at (Prim.hlevel codes) w.out (doubt_of batch)
    (λ n. doubt_of (batch_of w n))
prop_all_out w None (waiting_held.Doubt doubt) = prop_at (Prim.hlevel codes) w.out doubt (λ n. doubt_of (batch_of w n))
prop_all_out w (Some receipt) waiting_held.Nothing = prop_at (Prim.hlevel codes) w.out receipt (batch_of w)
prop_all_out w (Some receipt) (waiting_held.Batch batch) = λ x y. absurd x
prop_all_out w (Some receipt) (waiting_held.Doubt doubt) = λ x y. absurd x

pub all_held : {L : Type 0} (core : Core L) → IsCore core → IsAllOut core.desk.waiting (receipt_of core.held)
    (given_of core.held)
all_held core is = ∥∥₁_elim is (prop_all_out core.desk.waiting (receipt_of core.held) (given_of core.held))
    (λ (h : HoldsAll core). all_out core.desk.waiting core.held h.out)

prop_rows : (rows others : List Row) → (x y : rows ≡ others) → x ≡ y
prop_rows = Coded-set (Prim.hlevel codes)

pub all_given : {L : Type 0} (core : Core L) → IsCore core → IsPermutation core.permits.items core.desk.live
all_given core is = subst (IsPermutation core.permits.items) (∥∥₁_elim is (prop_rows core.permits.items core.desk.live)
    (λ (h : HoldsAll core). h.permits)) (IsPermutation-refl core.permits.items)

pub holds_receipt : (now : Held) (receipt : BatchValue) → receipt_of now ≡ Some receipt → now ≡ held.Receipt receipt
holds_receipt held.Nothing receipt is = cc
holds_receipt (held.Batch batch) receipt is = cc
holds_receipt (held.Receipt one) receipt is = cc
holds_receipt (held.Doubt doubt) receipt is = cc
