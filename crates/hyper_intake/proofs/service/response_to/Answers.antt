use Rattle.std.proofs.Common.{◌≡◌, ◌⊎◌, ◌∙◌, ℕ, List, Result, Ok, Err, ap, inl, inr, refl, subst, sym}
use Rattle.std.specs.Prelude.{IfOk}
use Rattle.std.specs.Borrow.{Bor}
use Rattle.hyper.specs.declared.error.Error.{Error}
use Rattle.http_body_util.specs.declared.collected.Collected.{Collected}
use Rattle.http_body_util.specs.Collected.{collected_bytes}
use Rattle.http_body_util.specs.declared.limited.LimitedError.{LimitedError}
use Rattle.http_body_util.specs.declared.limited.LimitedError.TheVariants.{LengthLimit, Body}
use Rattle.intake_shed.specs.declared.ask.AskBody.TheVariants as sent
use Rattle.hyper_intake.specs.Asking.{IsBodyOf, RepliesTo}
use Rattle.hyper_intake.specs.declared.asking.BodyRead.{BodyRead}
use Rattle.hyper_intake.specs.declared.asking.BodyRead.TheVariants.{Whole, TooLong, NoMemory, Cut}
use Rattle.hyper_intake.proofs.service.response_to.Goals.{in-Whole+in-Some-1, in-Whole+in-None-1, in-TooLong}
use Rattle.hyper_intake.proofs.service.response_to.Goals.{in-NoMemory}
use Rattle.hyper_intake.proofs.service.response_to.Goals as goal

abbrev Came : Type 0
Came = Result Collected (LimitedError Error)

-- what a body that is whole, or that is too long, came of
whole_came : (gathered : Came) (read : BodyRead)
    → IfOk gathered (λ collected. (read ≡ Whole (collected_bytes collected)) ⊎ (read ≡ NoMemory))
    → (gathered ≡ Err LengthLimit → read ≡ TooLong)
    → ((error : Error) → gathered ≡ Err (Body error) → (read ≡ Cut) ⊎ (read ≡ NoMemory))
    → (bytes : Bor (List ℕ)) → read ≡ Whole bytes.now → IsBodyOf gathered (sent.Whole bytes)
whole_came (Ok collected) read whole long cut bytes is = by whole
  where
    by : (read ≡ Whole (collected_bytes collected)) ⊎ (read ≡ NoMemory) → bytes.now ≡ collected_bytes collected
    by (inl same) = let one : Whole bytes.now ≡ Whole (collected_bytes collected) = sym is ∙ same in cc
    by (inr none) = absurd (let wrong : Whole bytes.now ≡ NoMemory = sym is ∙ none in cc)
whole_came (Err LengthLimit) read whole long cut bytes is = absurd
    (let wrong : Whole bytes.now ≡ TooLong = sym is ∙ long refl in cc)
whole_came (Err (Body error)) read whole long cut bytes is = by (cut error refl)
  where
    by : (read ≡ Cut) ⊎ (read ≡ NoMemory) → IsBodyOf (Err (Body error)) (sent.Whole bytes)
    by (inl same) = absurd (let wrong : Whole bytes.now ≡ Cut = sym is ∙ same in cc)
    by (inr none) = absurd (let wrong : Whole bytes.now ≡ NoMemory = sym is ∙ none in cc)

long_came : (gathered : Came) (read : BodyRead) → IfOk gathered (λ collected. (read ≡ Whole (collected_bytes collected))
    ⊎ (read ≡ NoMemory))
    → ((error : Error) → gathered ≡ Err (Body error) → (read ≡ Cut) ⊎ (read ≡ NoMemory)) → read ≡ TooLong
    → IsBodyOf gathered sent.TooLong
long_came (Ok collected) read whole cut is = by whole
  where
    by : (read ≡ Whole (collected_bytes collected)) ⊎ (read ≡ NoMemory) → IsBodyOf (Ok collected) sent.TooLong
    by (inl same) = absurd (let wrong : TooLong ≡ Whole (collected_bytes collected) = sym is ∙ same in cc)
    by (inr none) = absurd (let wrong : TooLong ≡ NoMemory = sym is ∙ none in cc)
long_came (Err LengthLimit) read whole cut is = refl
long_came (Err (Body error)) read whole cut is = by (cut error refl)
  where
    by : (read ≡ Cut) ⊎ (read ≡ NoMemory) → IsBodyOf (Err (Body error)) sent.TooLong
    by (inl same) = absurd (let wrong : TooLong ≡ Cut = sym is ∙ same in cc)
    by (inr none) = absurd (let wrong : TooLong ≡ NoMemory = sym is ∙ none in cc)

pub returns : goal.returns
returns g c =
    let answers = RepliesTo g.I.LogId.is_base c.args.head.now in
    let read = c.read_body.ensures in
    let whole = whole_came c.args.gathered c.read_body.result read.whole read.long read.cut in
    inr (
      sym c.has_unknown_coding.ensures ∙ c.if-has_unknown_coding.false,
      c.match-read_body.reply,
      c.in_ok-response_of.ensures,
      elim c.match-read_body.branch [
        | in-Whole+in-Some-1 w ↦ inl (
          sent.Whole w.as_slice.result,
          whole w.as_slice.result (w.in-Whole.is ∙ ap Whole (sym w.as_slice.ensures)),
          subst (answers (sent.Whole w.as_slice.result)) (sym w.reply-is) w.reply_to-reply.ensures,
        )
        | in-Whole+in-None-1 w ↦ inl (
          sent.Whole w.as_slice.result,
          whole w.as_slice.result (w.in-Whole.is ∙ ap Whole (sym w.as_slice.ensures)),
          subst (answers (sent.Whole w.as_slice.result)) (sym w.reply-is) w.reply_to-reply.ensures,
        )
        | in-TooLong w ↦ inl (
          sent.TooLong,
          long_came c.args.gathered c.read_body.result read.whole read.cut w.in-TooLong.is,
          subst (answers sent.TooLong) (sym w.reply-is) w.reply_to-reply-in-TooLong.ensures,
        )
        | in-NoMemory w ↦ inr (w.reply-is ∙ w.reply-reply.ensures)
      ],
    )
