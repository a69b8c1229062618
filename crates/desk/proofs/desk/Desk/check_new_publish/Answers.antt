use Rattle.desk.proofs.Words.{◌≡◌, ◌+◌, ◌∙◌, arith, length, ap, next_seq, record_count, requests_in}
use Rattle.desk.specs.Moves.{lacking}
use Rattle.desk.specs.World.{waiting_requests}
use Rattle.desk.proofs.DeskLaws.{count_is}
use Rattle.desk.proofs.PublishLaws.{backlogs_are, few_lack, lacking_is}
use Rattle.desk.proofs.desk.Desk.check_new_publish.Goals as goal

pub returns-clause-faults : goal.returns-clause-faults
returns-clause-faults g c = λ w h.
    let a = c.args in
    let d = a.self.now in
    let names = lacking w a.topic a.id.now in
    let count : a.events ≡ length names = c.requires ∙ ap length (lacking_is a.topic a.id.now h) in
    let places : requests_in d.waiting.waiting + a.events ≡ waiting_requests w + length names =
    λ i. requests_in (h.waiting.steps i) + count i in
    let numbers : record_count d.waiting + length d.live + a.events ≡ next_seq w + length w.live + length names =
    λ i. count_is h i + length (h.live i) + count i in
    let own = c.has_full_backlog.ensures ∙ backlogs_are a.topic a.id.now h in
    let full = c.lacks_places.ensures.full (omega (arith, c.requires, few_lack a.topic a.id.now h)) in
    cc (c.check.ensures, own, c.has_backlog.ensures w h, count, full, places, c.lacks_seqs.ensures, numbers)
