use Rattle.std.proofs.Common.{sym, subst}
use Rattle.intake_shed.specs.Answers.{Answers}
use Rattle.intake_shed.specs.declared.ask.Asked.{Asked}
use Rattle.intake_shed.proofs.AnswerLaws.{event_answers, publish_answers}
use Rattle.intake_shed.proofs.answering.answer_asked.Goals as goal

pub returns-in-Post-clause-answers : goal.returns-in-Post-clause-answers
returns-in-Post-clause-answers g c =
    let waited = c.submit_and_wait-waited.ensures in
    let seen = c.submit_and_wait-waited.new.pass in
    let answer = c.answer_event.result in
    subst (λ (what : Asked). Answers what seen answer.reply answer.ack answer.published answer.confirmed)
    (sym c.in-Post.is)
    (event_answers c.in-Post.name c.in-Post.id c.in-Post.body seen c.submit_and_wait-waited.result answer.reply
    answer.ack
    waited.event waited.seen waited.names c.answer_event.ensures.replied c.answer_event.ensures.given)

pub returns-in-Publish-clause-answers : goal.returns-in-Publish-clause-answers
returns-in-Publish-clause-answers g c =
    let waited = c.publish_and_wait-waited.ensures in
    let seen = c.publish_and_wait-waited.new.pass in
    let answer = c.answer_publish.result in
    subst (λ (what : Asked). Answers what seen answer.reply answer.ack answer.published answer.confirmed)
    (sym c.in-Publish.is)
    (publish_answers c.in-Publish.topic c.in-Publish.id c.in-Publish.body seen c.publish_and_wait-waited.result
    answer.reply
    answer.published waited.event waited.seen waited.names c.answer_publish.ensures.replied
    c.answer_publish.ensures.given)
