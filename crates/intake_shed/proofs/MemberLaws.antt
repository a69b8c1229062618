-- The texts of a list of values.
use Rattle.std.proofs.Common.{◌≡◌, ℕ, zero, suc, ◌+◌, ◌<◌, ◌≤◌, false, List, [], ◌∷◌, ◌++◌, length, take, get_or, refl}
use Rattle.std.proofs.Common.{sym, ap, ◌∙◌, arith, Option, Some, None, option_map}
use Rattle.std.proofs.lemmas.List.{take_more, map-append}
use Rattle.std.specs.Borrow.{Bor}
use Rattle.text_lines.specs.Parts.{texts}
use Rattle.serde_json.specs.Data.{Data, null, boolean, number, string, array, object}
use Rattle.serde_json.specs.Written.{has_float, items_have_float}
use Rattle.serde_json.specs.Find.{as_str}
use Rattle.serde_json.specs.View.{view, items_view}
use Rattle.serde_json.specs.declared.value.Value.{Value}
use Rattle.text_lines.proofs.NumberLaws.{none_some}
use Rattle.desk.specs.declared.ticket.Ticket.{Ticket}
use Rattle.status.specs.Pages.{natural}
use Rattle.intake_shed.specs.Bodies.{strings}
use Rattle.intake_shed.specs.Done.{naturals, published_body, seqs_of}
use Rattle.intake_shed.specs.Requests.{has_one_id}

pub is_string : (value : Data) (text : List ℕ) → Some text ≡ as_str value → value ≡ string text
is_string null text e = cc
is_string (boolean b) text e = cc
is_string (number n) text e = cc
is_string (string s) text e = cc
is_string (array ds) text e = cc
is_string (object ms) text e = cc

strings-push : (values : List Value) (list : List (List ℕ)) (value : Value) (text : List ℕ)
    → items_view values ≡ strings list → view value ≡ string text
    → items_view (values ++ value ∷ []) ≡ strings (list ++ text ∷ [])
strings-push [] [] value text h e = cc
strings-push [] (t ∷ list) value text h e = cc
strings-push (v ∷ values) [] value text h e = cc
strings-push (v ∷ values) (t ∷ list) value text h e =
    let head : view v ≡ string t = cc in
    let tail : items_view values ≡ strings list = cc in
    let rest = strings-push values list value text tail e in
    cc

-- one text more
pub strings-more : (values : List Value) (value : Value) (i : ℕ) (list new : List (Bor (List ℕ))) (text : Bor (List ℕ))
    → i < length values
    → value ≡ get_or values i value → items_view (take i values) ≡ strings (texts list)
    → Some text.now ≡ as_str (view value) → new ≡ list ++ text ∷ []
    → items_view (take (i + 1) values) ≡ strings (texts new)
strings-more values value i list new text lt at h is e =
    let longer : take (i + 1) values ≡ take i values ++ value ∷ [] = take_more values i value lt
    ∙ ap (λ v. take i values ++ v ∷ []) (sym at) in
    let more : texts new ≡ texts list ++ text.now ∷ [] = ap texts e ∙ map-append (λ (x : Bor (List ℕ)). x.now) list
    (text ∷ []) in
    rw (longer, more) (strings-push (take i values) (texts list) value text.now h (is_string (view value) text.now is))

-- each value of a list of texts is a text
pub text_at : (values : List Value) (d : Value) (i : ℕ) (list : List (List ℕ)) → items_view values ≡ strings list
    → i < length values
    → (text : List ℕ) × (as_str (view (get_or values i d)) ≡ Some text)
text_at [] d i list h lt = absurd (omega arith)
text_at (v ∷ values) d i [] h lt = cc
text_at (v ∷ values) d zero (t ∷ list) h lt =
    let head : view v ≡ string t = cc in
    (t, ap as_str head)
text_at (v ∷ values) d (suc i) (t ∷ list) h lt =
    let tail : items_view values ≡ strings list = cc in
    text_at values d i list tail (omega arith)

pub no_text : (values : List Value) (value : Value) (i : ℕ) (list : List (List ℕ)) (r : Option (Bor (List ℕ)))
    → items_view values ≡ strings list → i < length values
    → value ≡ get_or values i value → option_map (λ s. s.now) r ≡ as_str (view value) → r ≡ None → ⊥
no_text values value i list r h lt at is none =
    let text = text_at values value i list h lt in
    none_some (sym (ap (option_map (λ s. s.now)) none) ∙ is ∙ ap (λ v. as_str (view v)) at ∙ text.1)

-- more than one id
pub many_ids : (ids : List (Bor (List ℕ))) → 2 ≤ length ids → has_one_id (texts ids) ≡ false
many_ids [] h = absurd (omega arith)
many_ids (id ∷ []) h = absurd (omega arith)
many_ids (id ∷ other ∷ ids) h = refl

-- the numbers of tickets

naturals-push : (values : List Value) (ns : List ℕ) (value : Value) (n : ℕ) → items_view values ≡ naturals ns
    → view value ≡ natural n
    → items_view (values ++ value ∷ []) ≡ naturals (ns ++ n ∷ [])
naturals-push [] [] value n h e = cc
naturals-push [] (m ∷ ns) value n h e = cc
naturals-push (v ∷ values) [] value n h e = cc
naturals-push (v ∷ values) (m ∷ ns) value n h e =
    let head : view v ≡ natural m = cc in
    let tail : items_view values ≡ naturals ns = cc in
    let rest = naturals-push values ns value n tail e in
    cc

-- one number more
pub naturals-more : (tickets : List Ticket) (i : ℕ) (ticket : Ticket) (values new : List Value) (value : Value)
    → i < length tickets
    → ticket ≡ get_or tickets i ticket → items_view values ≡ naturals (seqs_of (take i tickets))
    → view value ≡ natural ticket.seq
    → new ≡ values ++ value ∷ [] → items_view new ≡ naturals (seqs_of (take (i + 1) tickets))
naturals-more tickets i ticket values new value lt at h is e =
    let longer : take (i + 1) tickets ≡ take i tickets ++ ticket ∷ [] =
    take_more tickets i ticket lt ∙ ap (λ t. take i tickets ++ t ∷ []) (sym at) in
    let more : seqs_of (take (i + 1) tickets) ≡ seqs_of (take i tickets) ++ ticket.seq ∷ [] =
    ap seqs_of longer ∙ map-append (λ (t : Ticket). t.seq) (take i tickets) (ticket ∷ []) in
    rw (e, more) (naturals-push values (seqs_of (take i tickets)) value ticket.seq h is)

no_float : (ns : List ℕ) → items_have_float (naturals ns) ≡ false
no_float [] = refl
no_float (n ∷ ns) = no_float ns

pub floatless : (id : List ℕ) (seqs : List ℕ) → has_float (published_body id seqs) ≡ false
floatless id seqs = rw (no_float seqs) refl
