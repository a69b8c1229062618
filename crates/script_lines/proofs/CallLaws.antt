-- A call by its first word, and by the words after it.
use Rattle.std.proofs.Common.{◌≡◌, ◌≤◌, ◌-◌, suc, drop, take, ◌==◌, subst, length, get_or, arith, ℕ, Bool, true, false}
use Rattle.std.proofs.Common.{List, [], ◌∷◌, codes, refl, sym, ap, ◌∙◌}
use Rattle.std.specs.Prelude.{bytes_eq, ◌&&◌, decimal, IsTrue}
use Rattle.relay_types.specs.Values.{is_moment, is_msg_id, is_name, is_target, is_max_limit}
use Rattle.std.specs.Borrow.{Bor}
use Rattle.std.proofs.lemmas.Bool.{and_parts}
use Rattle.std.proofs.lemmas.List.{length-map}
use Rattle.std.proofs.Math.Seq.{take-length}
use Rattle.text_lines.specs.Parts.{texts}
use Rattle.script_lines.specs.declared.call.Call.{Call}
use Rattle.script_lines.specs.declared.call.Call.TheVariants as on
use Rattle.retry_table.specs.declared.post.PostResult.{PostResult}
use Rattle.text_lines.specs.Words.{IsSecretsWord}
use Rattle.script_lines.specs.Script.{IsPut, IsSecrets, IsNamed, IsSubscribed, IsTold, IsSubmit, IsMoment, IsSpend}
use Rattle.script_lines.specs.Script.{IsShow, MayAllocateForSecrets, MayAllocateForSubmit, call_word, AreArguments}
use Rattle.text_lines.proofs.NumberLaws.{bytes_equal, true_not_false}

-- two words that differ are not one
apart : (a b word : List ℕ) → bytes_eq a b ≡ false → word ≡ a → word ≡ b → ⊥
apart a b word different h k = true_not_false (sym (bytes_equal a b (sym h ∙ k)) ∙ different)

-- nor is one that differs from both of a call with a flag
apart_enabled : (a word name : List ℕ) (flag : Bool) → bytes_eq a (codes "enable") ≡ false
    → bytes_eq a (codes "disable") ≡ false → word ≡ a
    → word ≡ call_word (on.Enabled name flag) → ⊥
apart_enabled a word name true first second h k = apart a (codes "enable") word first h k
apart_enabled a word name false first second h k = apart a (codes "disable") word second h k

apart_subscribed : (a word topic name : List ℕ) (flag : Bool) → bytes_eq a (codes "subscribe") ≡ false
    → bytes_eq a (codes "unsubscribe") ≡ false → word ≡ a
    → word ≡ call_word (on.Subscribed topic name flag) → ⊥
apart_subscribed a word topic name true first second h k = apart a (codes "subscribe") word first h k
apart_subscribed a word topic name false first second h k = apart a (codes "unsubscribe") word second h k

-- ---- what holds of each call of a first word

pub only_put : (P : Call → Type 0) (word : List ℕ) (words : List (List ℕ)) → word ≡ codes "put"
    → ((name target : List ℕ) (max : ℕ) (secrets : List (List ℕ)) → IsPut words name target max secrets
    → P (on.Put name target max secrets))
    → (call : Call) → word ≡ call_word call → AreArguments words call → P call
only_put P word words is own (on.Put name target max secrets) e h = own name target max secrets h
only_put P word words is own (on.Enabled name flag) e h = absurd
    (apart_enabled (codes "put") word name flag refl refl is e)
only_put P word words is own (on.Subscribed topic name flag) e h = absurd
    (apart_subscribed (codes "put") word topic name flag refl refl is e)
only_put P word words is own call e h = absurd (apart (codes "put") (call_word call) word refl is e)

pub only_secrets : (P : Call → Type 0) (word : List ℕ) (words : List (List ℕ)) → word ≡ codes "secrets"
    → ((name : List ℕ) (secrets : List (List ℕ)) → IsSecrets words name secrets → P (on.Secrets name secrets))
    → (call : Call) → word ≡ call_word call → AreArguments words call → P call
only_secrets P word words is own (on.Secrets name secrets) e h = own name secrets h
only_secrets P word words is own (on.Enabled name flag) e h = absurd
    (apart_enabled (codes "secrets") word name flag refl refl is e)
only_secrets P word words is own (on.Subscribed topic name flag) e h = absurd
    (apart_subscribed (codes "secrets") word topic name flag refl refl is e)
only_secrets P word words is own call e h = absurd (apart (codes "secrets") (call_word call) word refl is e)

pub only_enable : (P : Call → Type 0) (word : List ℕ) (words : List (List ℕ)) → word ≡ codes "enable"
    → ((name : List ℕ) → IsNamed words name → P (on.Enabled name true))
    → (call : Call) → word ≡ call_word call → AreArguments words call → P call
only_enable P word words is own (on.Enabled name true) e h = own name h
only_enable P word words is own (on.Enabled name false) e h = absurd
    (apart (codes "enable") (codes "disable") word refl is e)
only_enable P word words is own (on.Subscribed topic name flag) e h = absurd
    (apart_subscribed (codes "enable") word topic name flag refl refl is e)
only_enable P word words is own call e h = absurd (apart (codes "enable") (call_word call) word refl is e)

pub only_disable : (P : Call → Type 0) (word : List ℕ) (words : List (List ℕ)) → word ≡ codes "disable"
    → ((name : List ℕ) → IsNamed words name → P (on.Enabled name false))
    → (call : Call) → word ≡ call_word call → AreArguments words call → P call
only_disable P word words is own (on.Enabled name false) e h = own name h
only_disable P word words is own (on.Enabled name true) e h = absurd
    (apart (codes "disable") (codes "enable") word refl is e)
only_disable P word words is own (on.Subscribed topic name flag) e h = absurd
    (apart_subscribed (codes "disable") word topic name flag refl refl is e)
only_disable P word words is own call e h = absurd (apart (codes "disable") (call_word call) word refl is e)

pub only_subscribe : (P : Call → Type 0) (word : List ℕ) (words : List (List ℕ)) → word ≡ codes "subscribe"
    → ((topic name : List ℕ) → IsSubscribed words topic name → P (on.Subscribed topic name true))
    → (call : Call) → word ≡ call_word call → AreArguments words call → P call
only_subscribe P word words is own (on.Subscribed topic name true) e h = own topic name h
only_subscribe P word words is own (on.Subscribed topic name false) e h = absurd
    (apart (codes "subscribe") (codes "unsubscribe") word refl is e)
only_subscribe P word words is own (on.Enabled name flag) e h = absurd
    (apart_enabled (codes "subscribe") word name flag refl refl is e)
only_subscribe P word words is own call e h = absurd (apart (codes "subscribe") (call_word call) word refl is e)

pub only_unsubscribe : (P : Call → Type 0) (word : List ℕ) (words : List (List ℕ)) → word ≡ codes "unsubscribe"
    → ((topic name : List ℕ) → IsSubscribed words topic name → P (on.Subscribed topic name false))
    → (call : Call) → word ≡ call_word call → AreArguments words call → P call
only_unsubscribe P word words is own (on.Subscribed topic name false) e h = own topic name h
only_unsubscribe P word words is own (on.Subscribed topic name true) e h = absurd
    (apart (codes "unsubscribe") (codes "subscribe") word refl is e)
only_unsubscribe P word words is own (on.Enabled name flag) e h = absurd
    (apart_enabled (codes "unsubscribe") word name flag refl refl is e)
only_unsubscribe P word words is own call e h = absurd (apart (codes "unsubscribe") (call_word call) word refl is e)

pub only_submit : (P : Call → Type 0) (word : List ℕ) (words : List (List ℕ)) → word ≡ codes "submit"
    → ((now : ℕ) (name id body : List ℕ) → IsSubmit words now name id body → P (on.Submit now name id body))
    → (call : Call) → word ≡ call_word call → AreArguments words call → P call
only_submit P word words is own (on.Submit now name id body) e h = own now name id body h
only_submit P word words is own (on.Enabled name flag) e h = absurd
    (apart_enabled (codes "submit") word name flag refl refl is e)
only_submit P word words is own (on.Subscribed topic name flag) e h = absurd
    (apart_subscribed (codes "submit") word topic name flag refl refl is e)
only_submit P word words is own call e h = absurd (apart (codes "submit") (call_word call) word refl is e)

pub only_publish : (P : Call → Type 0) (word : List ℕ) (words : List (List ℕ)) → word ≡ codes "publish"
    → ((now : ℕ) (topic id body : List ℕ) → IsSubmit words now topic id body → P (on.Publish now topic id body))
    → (call : Call) → word ≡ call_word call → AreArguments words call → P call
only_publish P word words is own (on.Publish now topic id body) e h = own now topic id body h
only_publish P word words is own (on.Enabled name flag) e h =
    absurd (apart_enabled (codes "publish") word name flag refl refl is e)
only_publish P word words is own (on.Subscribed topic name flag) e h =
    absurd (apart_subscribed (codes "publish") word topic name flag refl refl is e)
only_publish P word words is own call e h = absurd (apart (codes "publish") (call_word call) word refl is e)

pub only_purge : (P : Call → Type 0) (word : List ℕ) (words : List (List ℕ)) → word ≡ codes "purge"
    → ((before : ℕ) → IsMoment words before → P (on.Purge before))
    → (call : Call) → word ≡ call_word call → AreArguments words call → P call
only_purge P word words is own (on.Purge before) e h = own before h
only_purge P word words is own (on.Enabled name flag) e h =
    absurd (apart_enabled (codes "purge") word name flag refl refl is e)
only_purge P word words is own (on.Subscribed topic name flag) e h =
    absurd (apart_subscribed (codes "purge") word topic name flag refl refl is e)
only_purge P word words is own call e h = absurd (apart (codes "purge") (call_word call) word refl is e)

pub only_told : (P : Call → Type 0) (word : List ℕ) (words : List (List ℕ)) → word ≡ codes "told"
    → ((seq : ℕ) → IsTold words seq → P (on.Told seq))
    → (call : Call) → word ≡ call_word call → AreArguments words call → P call
only_told P word words is own (on.Told seq) e h = own seq h
only_told P word words is own (on.Enabled name flag) e h = absurd
    (apart_enabled (codes "told") word name flag refl refl is e)
only_told P word words is own (on.Subscribed topic name flag) e h = absurd
    (apart_subscribed (codes "told") word topic name flag refl refl is e)
only_told P word words is own call e h = absurd (apart (codes "told") (call_word call) word refl is e)

pub only_claim : (P : Call → Type 0) (word : List ℕ) (words : List (List ℕ)) → word ≡ codes "claim"
    → ((now : ℕ) → IsMoment words now → P (on.Claim now))
    → (call : Call) → word ≡ call_word call → AreArguments words call → P call
only_claim P word words is own (on.Claim now) e h = own now h
only_claim P word words is own (on.Enabled name flag) e h = absurd
    (apart_enabled (codes "claim") word name flag refl refl is e)
only_claim P word words is own (on.Subscribed topic name flag) e h = absurd
    (apart_subscribed (codes "claim") word topic name flag refl refl is e)
only_claim P word words is own call e h = absurd (apart (codes "claim") (call_word call) word refl is e)

pub only_spend : (P : Call → Type 0) (word : List ℕ) (words : List (List ℕ)) → word ≡ codes "spend"
    → ((delivery now : ℕ) (post : PostResult) → IsSpend words delivery now post → P (on.Spend delivery now post))
    → (call : Call) → word ≡ call_word call → AreArguments words call → P call
only_spend P word words is own (on.Spend delivery now post) e h = own delivery now post h
only_spend P word words is own (on.Enabled name flag) e h = absurd
    (apart_enabled (codes "spend") word name flag refl refl is e)
only_spend P word words is own (on.Subscribed topic name flag) e h = absurd
    (apart_subscribed (codes "spend") word topic name flag refl refl is e)
only_spend P word words is own call e h = absurd (apart (codes "spend") (call_word call) word refl is e)

pub only_limits : (P : Call → Type 0) (word : List ℕ) (words : List (List ℕ)) → word ≡ codes "limits"
    → ((name : List ℕ) → IsNamed words name → P (on.Limits name))
    → (call : Call) → word ≡ call_word call → AreArguments words call → P call
only_limits P word words is own (on.Limits name) e h = own name h
only_limits P word words is own (on.Enabled name flag) e h = absurd
    (apart_enabled (codes "limits") word name flag refl refl is e)
only_limits P word words is own (on.Subscribed topic name flag) e h = absurd
    (apart_subscribed (codes "limits") word topic name flag refl refl is e)
only_limits P word words is own call e h = absurd (apart (codes "limits") (call_word call) word refl is e)

pub only_show : (P : Call → Type 0) (word : List ℕ) (words : List (List ℕ)) → word ≡ codes "show"
    → ((name : List ℕ) → IsNamed words name → P (on.ShowEndpoint name))
    → ((name id : List ℕ) → IsShow words name id → P (on.Show name id))
    → (call : Call) → word ≡ call_word call → AreArguments words call → P call
only_show P word words is endpoint own (on.ShowEndpoint name) e h = endpoint name h
only_show P word words is endpoint own (on.Show name id) e h = own name id h
only_show P word words is endpoint own (on.Enabled name flag) e h = absurd
    (apart_enabled (codes "show") word name flag refl refl is e)
only_show P word words is endpoint own (on.Subscribed topic name flag) e h = absurd
    (apart_subscribed (codes "show") word topic name flag refl refl is e)
only_show P word words is endpoint own call e h = absurd (apart (codes "show") (call_word call) word refl is e)

pub only_seal : (P : Call → Type 0) (word : List ℕ) (words : List (List ℕ)) → word ≡ codes "seal"
    → (words ≡ [] → P on.Seal)
    → (call : Call) → word ≡ call_word call → AreArguments words call → P call
only_seal P word words is own on.Seal e h = own h
only_seal P word words is own (on.Enabled name flag) e h = absurd
    (apart_enabled (codes "seal") word name flag refl refl is e)
only_seal P word words is own (on.Subscribed topic name flag) e h = absurd
    (apart_subscribed (codes "seal") word topic name flag refl refl is e)
only_seal P word words is own call e h = absurd (apart (codes "seal") (call_word call) word refl is e)

pub only_commit : (P : Call → Type 0) (word : List ℕ) (words : List (List ℕ)) → word ≡ codes "commit"
    → (words ≡ [] → P on.Commit)
    → (call : Call) → word ≡ call_word call → AreArguments words call → P call
only_commit P word words is own on.Commit e h = own h
only_commit P word words is own (on.Enabled name flag) e h = absurd
    (apart_enabled (codes "commit") word name flag refl refl is e)
only_commit P word words is own (on.Subscribed topic name flag) e h = absurd
    (apart_subscribed (codes "commit") word topic name flag refl refl is e)
only_commit P word words is own call e h = absurd (apart (codes "commit") (call_word call) word refl is e)

pub only_settle : (P : Call → Type 0) (word : List ℕ) (words : List (List ℕ)) → word ≡ codes "settle"
    → (words ≡ [] → P on.Settle)
    → (call : Call) → word ≡ call_word call → AreArguments words call → P call
only_settle P word words is own on.Settle e h = own h
only_settle P word words is own (on.Enabled name flag) e h = absurd
    (apart_enabled (codes "settle") word name flag refl refl is e)
only_settle P word words is own (on.Subscribed topic name flag) e h = absurd
    (apart_subscribed (codes "settle") word topic name flag refl refl is e)
only_settle P word words is own call e h = absurd (apart (codes "settle") (call_word call) word refl is e)

pub only_unseal : (P : Call → Type 0) (word : List ℕ) (words : List (List ℕ)) → word ≡ codes "unseal"
    → (words ≡ [] → P on.Unseal)
    → (call : Call) → word ≡ call_word call → AreArguments words call → P call
only_unseal P word words is own on.Unseal e h = own h
only_unseal P word words is own (on.Enabled name flag) e h = absurd
    (apart_enabled (codes "unseal") word name flag refl refl is e)
only_unseal P word words is own (on.Subscribed topic name flag) e h = absurd
    (apart_subscribed (codes "unseal") word topic name flag refl refl is e)
only_unseal P word words is own call e h = absurd (apart (codes "unseal") (call_word call) word refl is e)

pub only_halt : (P : Call → Type 0) (word : List ℕ) (words : List (List ℕ)) → word ≡ codes "halt"
    → (words ≡ [] → P on.Halt)
    → (call : Call) → word ≡ call_word call → AreArguments words call → P call
only_halt P word words is own on.Halt e h = own h
only_halt P word words is own (on.Enabled name flag) e h = absurd
    (apart_enabled (codes "halt") word name flag refl refl is e)
only_halt P word words is own (on.Subscribed topic name flag) e h = absurd
    (apart_subscribed (codes "halt") word topic name flag refl refl is e)
only_halt P word words is own call e h = absurd (apart (codes "halt") (call_word call) word refl is e)

-- ---- the words after the first one

pub some_text : (words : List (Bor (List ℕ))) (r : Bool) → r ≡ (length words == 0) → r ≡ false → texts words ≡ [] → ⊥
some_text [] r e none h = cc
some_text (word ∷ words) r e none h = cc

pub two_texts : (words : List (Bor (List ℕ))) (d : Bor (List ℕ)) → length words ≡ 2
    → texts words ≡ (get_or words 0 d).now ∷ (get_or words 1 d).now ∷ []
two_texts [] d h = cc
two_texts (a ∷ []) d h = cc
two_texts (a ∷ b ∷ []) d h = refl
two_texts (a ∷ b ∷ c ∷ more) d h = absurd (omega (arith, h))

pub texts_from_two : (words : List (Bor (List ℕ))) (d : Bor (List ℕ)) → 2 ≤ length words → texts words
    ≡ (get_or words 0 d).now ∷ (get_or words 1 d).now ∷ texts (take (length words - 2) (drop 2 words))
texts_from_two [] d h = absurd (omega (arith, h))
texts_from_two (a ∷ []) d h = absurd (omega (arith, h))
texts_from_two (a ∷ b ∷ more) d h = ap (λ (rest : List (Bor (List ℕ))). a.now ∷ b.now ∷ texts rest)
    (sym (ap (λ n. take n more) (less (length more)) ∙ take-length more))
  where
    less : (n : ℕ) → suc (suc n) - 2 ≡ n
    less n = omega arith

pub four_texts : (words : List (Bor (List ℕ))) (d : Bor (List ℕ)) → length words ≡ 4
    → texts words ≡ (get_or words 0 d).now ∷ (get_or words 1 d).now ∷ (get_or words 2 d).now ∷ (get_or words 3 d).now
    ∷ []
four_texts [] d h = cc
four_texts (a ∷ []) d h = cc
four_texts (a ∷ b ∷ []) d h = cc
four_texts (a ∷ b ∷ c ∷ []) d h = cc
four_texts (a ∷ b ∷ c ∷ e ∷ []) d h = refl
four_texts (a ∷ b ∷ c ∷ e ∷ f ∷ more) d h = absurd (omega (arith, h))

pub length-IsPut : (words : List (Bor (List ℕ))) (name target : List ℕ) (max : ℕ) (secrets : List (List ℕ))
    → IsPut (texts words) name target max secrets
    → length words ≡ 4
length-IsPut words name target max secrets (word, reads, e, valid) =
    let same : length (texts words) ≡ length words = simp length-map in
    sym same ∙ ap length e

pub put_secrets : (a b c d name target : List ℕ) (max : ℕ) (secrets : List (List ℕ))
    → IsPut (a ∷ b ∷ c ∷ d ∷ []) name target max secrets → IsSecretsWord d secrets
put_secrets a b c d name target max secrets (word, reads, e, valid) =
    let same : word ≡ d = cc in
    subst (λ xs. IsSecretsWord xs secrets) same reads

pub put_max : (a b c d name target : List ℕ) (max : ℕ) (secrets : List (List ℕ))
    → IsPut (a ∷ b ∷ c ∷ d ∷ []) name target max secrets → (c ≡ decimal max) × IsTrue (is_max_limit max)
put_max a b c d name target max secrets (word, reads, e, valid) =
    let same : c ≡ decimal max = cc in
    let rest = (and_parts (is_name name) (is_target target && is_max_limit max) valid).1 in
    (same, (and_parts (is_target target) (is_max_limit max) rest).1)

pub new_secrets : (a b name : List ℕ) (secrets : List (List ℕ)) → IsSecrets (a ∷ b ∷ []) name secrets
    → IsSecretsWord b secrets
new_secrets a b name secrets (word, reads, e, valid) =
    let same : word ≡ b = cc in
    subst (λ xs. IsSecretsWord xs secrets) same reads

-- ---- words for which something is allocated

pub lacks_secrets : (name word : List ℕ) → IsTrue (is_name name) → (secrets : List (List ℕ))
    × IsSecretsWord word secrets → MayAllocateForSecrets (name ∷ word ∷ [])
lacks_secrets name word named (secrets, reads) = (name, secrets, (word, reads, refl, named))

pub lacks_submit : (words : List (Bor (List ℕ))) (a b c d : List ℕ) → texts words ≡ a ∷ b ∷ c ∷ d ∷ [] → (moment : ℕ)
    × (a ≡ decimal moment) × IsTrue (is_moment moment && (is_name b && is_msg_id c))
    → MayAllocateForSubmit (texts words)
lacks_submit words a b c d is (moment, same, valid) = (moment, b, c, d, is ∙ ap (λ w. w ∷ b ∷ c ∷ d ∷ []) same, valid)
