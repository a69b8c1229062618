-- No word of a call has a space, so the words of a line determine its call.
use Rattle.std.proofs.Common.{◌≡◌, ◌≢◌, ℕ, suc, ◌<◌, ◌≤◌, ◌^◌, length, ap, arith, true, false, List, [], ◌∷◌, decimal}
use Rattle.std.proofs.Common.{codes, IsTrue, refl, sym, subst, lit<}
use Rattle.std.specs.Prelude.{◌&&◌, nat_le}
use Rattle.std.specs.List.{list_all}
use Rattle.std.proofs.lemmas.Bool.{and_parts}
use Rattle.relay_types.specs.Values.{is_name, is_msg_id, is_target, is_max_limit, is_moment, is_body}
use Rattle.text_lines.specs.Parts.{line, has_no, HasParts}
use Rattle.text_lines.proofs.CleanWords.{clean-name, clean-id, clean-target, clean-decimal, clean-body}
use Rattle.text_lines.proofs.CleanWords.{clean-secrets_word, at_most}
use Rattle.text_lines.proofs.PartLaws.{parts_equal, HasParts-split}
use Rattle.script_lines.specs.declared.call.Call.{Call}
use Rattle.script_lines.specs.declared.call.Call.TheVariants as on
use Rattle.retry_table.specs.declared.post.PostResult.{PostResult}
use Rattle.retry_table.specs.declared.post.PostResult.TheVariants.{Answered, TimedOut, Unreached, Unsent}
use Rattle.script_lines.specs.Script.{IsMoment, IsNamed, IsSubmit, IsResult, HasFewWords, call_word, AreArguments}
use Rattle.script_lines.specs.Script.{IsCall, IsLineOfCall}

four_clean : (a b c d : List ℕ) → IsTrue (has_no 32 a) → IsTrue (has_no 32 b) → IsTrue (has_no 32 c)
    → IsTrue (has_no 32 d) → IsTrue (list_all (has_no 32) (a ∷ b ∷ c ∷ d ∷ []))
four_clean a b c d ha hb hc hd = rw (ha, hb, hc, hd) refl

two_clean : (a b : List ℕ) → IsTrue (has_no 32 a) → IsTrue (has_no 32 b) → IsTrue (list_all (has_no 32) (a ∷ b ∷ []))
two_clean a b ha hb = rw (ha, hb) refl

one_clean : (a : List ℕ) → IsTrue (has_no 32 a) → IsTrue (list_all (has_no 32) (a ∷ []))
one_clean a ha = rw ha refl

none_clean : (words : List (List ℕ)) → words ≡ [] → IsTrue (list_all (has_no 32) words)
none_clean words e = subst (λ xs. IsTrue (list_all (has_no 32) xs)) (sym e) refl

name_alone : (words : List (List ℕ)) (name : List ℕ) → IsNamed words name → IsTrue (list_all (has_no 32) words)
name_alone words name (e, valid) = subst (λ xs. IsTrue (list_all (has_no 32) xs)) (sym e)
    (one_clean name (clean-name name valid))

two_and_more_clean : (a b : List ℕ) (more : List (List ℕ)) → IsTrue (has_no 32 a) → IsTrue (has_no 32 b)
    → IsTrue (list_all (has_no 32) more) → IsTrue (list_all (has_no 32) (a ∷ b ∷ more))
two_and_more_clean a b more ha hb hm = rw (ha, hb, hm) refl

below : (n k : ℕ) → n < k → k < 2 ^ 64 → n < 2 ^ 64
below n k h small = omega (arith, h, small)

clean-rtt : (rtt : ℕ) → rtt < 2 ^ 63 → IsTrue (has_no 32 (decimal rtt))
clean-rtt rtt small = clean-decimal rtt (below rtt (2 ^ 63) small (lit< tt))

clean-result : (words : List (List ℕ)) (post : PostResult) → IsResult words post → IsTrue (list_all (has_no 32) words)
clean-result words (Answered status rtt) (e, valid, small) =
    subst (λ xs. IsTrue (list_all (has_no 32) xs)) (sym e)
    (two_clean (decimal status) (decimal rtt)
    (clean-decimal status (at_most status 999 (and_parts (nat_le 100 status) (nat_le status 999) valid).1
    (lit< tt))) (clean-rtt rtt small))
clean-result words (TimedOut rtt) (e, small) = subst (λ xs. IsTrue (list_all (has_no 32) xs)) (sym e)
    (two_clean (codes "timeout") (decimal rtt) refl (clean-rtt rtt small))
clean-result words Unreached e = subst (λ xs. IsTrue (list_all (has_no 32) xs)) (sym e) refl
clean-result words Unsent e = subst (λ xs. IsTrue (list_all (has_no 32) xs)) (sym e) refl

clean-event : (words : List (List ℕ)) (now : ℕ) (name id body : List ℕ) → IsSubmit words now name id body
    → IsTrue (list_all (has_no 32) words)
clean-event words now name id body (word, reads, e, valid) =
    let one = and_parts (is_moment now) (is_name name && (is_msg_id id && is_body body)) valid in
    let two = and_parts (is_name name) (is_msg_id id && is_body body) one.1 in
    let three = and_parts (is_msg_id id) (is_body body) two.1 in
    subst (λ xs. IsTrue (list_all (has_no 32) xs)) (sym e)
    (four_clean (decimal now) name id word (clean-decimal now (at_most now (2 ^ 40) one.0 (lit< tt)))
    (clean-name name two.0) (clean-id id three.0) (clean-body word body reads))

clean-moment : (words : List (List ℕ)) (moment : ℕ) → IsMoment words moment → IsTrue (list_all (has_no 32) words)
clean-moment words moment (e, valid) =
    subst (λ xs. IsTrue (list_all (has_no 32) xs)) (sym e)
    (one_clean (decimal moment) (clean-decimal moment (at_most moment (2 ^ 40) valid (lit< tt))))

clean-arguments : (words : List (List ℕ)) (call : Call) → AreArguments words call → IsTrue (list_all (has_no 32) words)
clean-arguments words (on.Put name target max secrets) (word, reads, e, valid) =
    let one = and_parts (is_name name) (is_target target && is_max_limit max) valid in
    let two = and_parts (is_target target) (is_max_limit max) one.1 in
    let most = (and_parts (nat_le 1 max) (nat_le max 1000) two.1).1 in
    subst (λ xs. IsTrue (list_all (has_no 32) xs)) (sym e)
    (four_clean name target (decimal max) word (clean-name name one.0) (clean-target target two.0)
    (clean-decimal max (at_most max 1000 most (lit< tt))) (clean-secrets_word word secrets reads))
clean-arguments words (on.Secrets name secrets) (word, reads, e, valid) =
    subst (λ xs. IsTrue (list_all (has_no 32) xs)) (sym e)
    (two_clean name word (clean-name name valid) (clean-secrets_word word secrets reads))
clean-arguments words (on.Enabled name flag) named = name_alone words name named
clean-arguments words (on.Subscribed topic name flag) (e, valid) =
    let both = and_parts (is_name topic) (is_name name) valid in
    subst (λ xs. IsTrue (list_all (has_no 32) xs)) (sym e)
    (two_clean topic name (clean-name topic both.0) (clean-name name both.1))
clean-arguments words (on.Submit now name id body) h = clean-event words now name id body h
clean-arguments words (on.Publish now topic id body) h = clean-event words now topic id body h
clean-arguments words (on.Purge before) h = clean-moment words before h
clean-arguments words (on.Told seq) (e, small) = subst (λ xs. IsTrue (list_all (has_no 32) xs)) (sym e)
    (one_clean (decimal seq) (clean-decimal seq small))
clean-arguments words on.Seal e = none_clean words e
clean-arguments words on.Commit e = none_clean words e
clean-arguments words on.Settle e = none_clean words e
clean-arguments words on.Unseal e = none_clean words e
clean-arguments words on.Halt e = none_clean words e
clean-arguments words (on.Claim now) h = clean-moment words now h
clean-arguments words (on.Spend delivery now post) (results, told, e, small, valid) =
    subst (λ xs. IsTrue (list_all (has_no 32) xs)) (sym e)
    (two_and_more_clean (decimal delivery) (decimal now) results (clean-decimal delivery small)
    (clean-decimal now (at_most now (2 ^ 40) valid (lit< tt))) (clean-result results post told))
clean-arguments words (on.Limits name) named = name_alone words name named
clean-arguments words (on.ShowEndpoint name) named = name_alone words name named
clean-arguments words (on.Show name id) (e, valid) =
    let both = and_parts (is_name name) (is_msg_id id) valid in
    subst (λ xs. IsTrue (list_all (has_no 32) xs)) (sym e)
    (two_clean name id (clean-name name both.0) (clean-id id both.1))

clean-word : (call : Call) → IsTrue (has_no 32 (call_word call))
clean-word (on.Enabled name true) = refl
clean-word (on.Enabled name false) = refl
clean-word (on.Subscribed topic name true) = refl
clean-word (on.Subscribed topic name false) = refl
clean-word call = refl

some_word : (words rest : List (List ℕ)) (word : List ℕ) → words ≡ word ∷ rest → words ≢ []
some_word words rest word e none = cc

-- the words of a call are the parts of its line
pub parts_of_call : (text : List ℕ) (words : List (List ℕ)) (call : Call) → text ≡ line words → IsCall words call
    → HasParts 32 text words
parts_of_call text words call e (arguments, is, told) =
    let clean : IsTrue (list_all (has_no 32) words) = rw (is, clean-word call) (clean-arguments arguments call told) in
    (e, some_word words arguments (call_word call) is, clean)

pub the_call : (text : List ℕ) (parts : List (List ℕ)) (call : Call) → HasParts 32 text parts → IsLineOfCall text call
    → IsCall parts call
the_call text parts call h (words, e, is) =
    subst (λ xs. IsCall xs call) (parts_equal 32 text words parts (parts_of_call text words call e is) h) is

-- ---- how many words a line has

length-result : (words : List (List ℕ)) (post : PostResult) → IsResult words post → length words ≤ 2
length-result words (Answered status rtt) (e, valid, small) = let n : length words ≡ 2 = ap length e in omega (arith, n)
length-result words (TimedOut rtt) (e, small) = let n : length words ≡ 2 = ap length e in omega (arith, n)
length-result words Unreached e = let n : length words ≡ 1 = ap length e in omega (arith, n)
length-result words Unsent e = let n : length words ≡ 1 = ap length e in omega (arith, n)

length-alone : (words : List (List ℕ)) → words ≡ [] → length words ≤ 4
length-alone words e = let n : length words ≡ 0 = ap length e in omega (arith, n)

length-named : (words : List (List ℕ)) (name : List ℕ) → words ≡ name ∷ [] → length words ≤ 4
length-named words name e = let n : length words ≡ 1 = ap length e in omega (arith, n)

length-arguments : (words : List (List ℕ)) (call : Call) → AreArguments words call → length words ≤ 4
length-arguments words (on.Put name target max secrets) (word, reads, e, valid) = let n : length words ≡ 4 = ap length e
    in omega (arith, n)
length-arguments words (on.Secrets name secrets) (word, reads, e, valid) = let n : length words ≡ 2 = ap length e
    in omega (arith, n)
length-arguments words (on.Enabled name flag) (e, valid) = length-named words name e
length-arguments words (on.Subscribed topic name flag) (e, valid) = let n : length words ≡ 2 = ap length e
    in omega (arith, n)
length-arguments words (on.Submit now name id body) (word, reads, e, valid) = let n : length words ≡ 4 = ap length e
    in omega (arith, n)
length-arguments words (on.Publish now topic id body) (word, reads, e, valid) = let n : length words
    ≡ 4 = ap length e in omega (arith, n)
length-arguments words (on.Purge before) (e, valid) = length-named words (decimal before) e
length-arguments words (on.Told seq) (e, small) = length-named words (decimal seq) e
length-arguments words on.Seal e = length-alone words e
length-arguments words on.Commit e = length-alone words e
length-arguments words on.Settle e = length-alone words e
length-arguments words on.Unseal e = length-alone words e
length-arguments words on.Halt e = length-alone words e
length-arguments words (on.Claim now) (e, valid) = length-named words (decimal now) e
length-arguments words (on.Spend delivery now post) (results, told, e, small, valid) =
    let n : length words ≡ suc (suc (length results)) = ap length e in
    let few = length-result results post told in
    omega (arith, n, few)
length-arguments words (on.Limits name) (e, valid) = length-named words name e
length-arguments words (on.ShowEndpoint name) (e, valid) = length-named words name e
length-arguments words (on.Show name id) (e, valid) = let n : length words ≡ 2 = ap length e in omega (arith, n)

-- more words than a call has
pub many_words : (text : List ℕ) (count : ℕ) → ((words : List (List ℕ)) → HasParts 32 text words → count ≡ length words)
    → 5 < count
    → (call : Call) → IsLineOfCall text call → ⊥
many_words text count counts many call (words, e, (arguments, is, told)) =
    let same = counts words (parts_of_call text words call e (arguments, is, told)) in
    let long : length words ≡ suc (length arguments) = ap length is in
    let few = length-arguments arguments call told in
    omega (arith, same, many, long, few)

pub few_words : (text : List ℕ) (count : ℕ) → ((words : List (List ℕ)) → HasParts 32 text words → count ≡ length words)
    → count ≤ 5 → HasFewWords text
few_words text count counts few =
    let is = HasParts-split 32 text in
    let same = counts _ is in
    (_, is, omega (arith, same, few))
