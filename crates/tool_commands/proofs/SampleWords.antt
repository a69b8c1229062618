-- The words of a line tell its sample.
use Rattle.std.proofs.Common.{◌≡◌, ℕ, Bool, true, false, List, [], ◌∷◌, length, decimal, get_or, IsTrue, refl, sym, ap}
use Rattle.std.proofs.Common.{◌∙◌, arith}
use Rattle.std.specs.Borrow.{Bor}
use Rattle.std.specs.List.{list_all}
use Rattle.std.proofs.lemmas.List.{length-map}
use Rattle.vegas.specs.declared.sample.Sample.{Sample}
use Rattle.text_lines.specs.Parts.{line, has_no, HasParts, texts}
use Rattle.tool_commands.specs.Traces.{end_word, sample_words, IsSample, ReadsSample, HasThreeWords}
use Rattle.text_lines.proofs.CleanWords.{clean-decimal}
use Rattle.text_lines.proofs.PartLaws.{parts_equal, HasParts-split}

clean_end : (dropped : Bool) → IsTrue (has_no 32 (end_word dropped))
clean_end true = refl
clean_end false = refl

three_clean : (a b c : List ℕ) → IsTrue (has_no 32 a) → IsTrue (has_no 32 b) → IsTrue (has_no 32 c)
    → IsTrue (list_all (has_no 32) (a ∷ b ∷ c ∷ []))
three_clean a b c ha hb hc = rw (ha, hb, hc) refl

sample_parts : (text : List ℕ) (x : Sample) → ReadsSample text x → HasParts 32 text (sample_words x)
sample_parts text x (given, is, sample) =
    let clean : IsTrue (list_all (has_no 32) (sample_words x)) = three_clean (decimal x.rtt) (decimal x.inflight)
    (end_word x.dropped) (clean-decimal x.rtt (omega (arith, sample.1)))
    (clean-decimal x.inflight (omega (arith, sample.3))) (clean_end x.dropped) in
    (is ∙ ap (λ ws. line ws) sample.0, (λ none. cc), clean)

pub the_sample : (text : List ℕ) (words : List (List ℕ)) (x : Sample) → HasParts 32 text words → ReadsSample text x
    → IsSample words x
the_sample text words x parts (given, is, sample) =
    let same : sample_words x ≡ words = parts_equal 32 text (sample_words x) words
    (sample_parts text x (given, is, sample)) parts in
    (sym same, sample.1, sample.2, sample.3)

-- the line of a sample has three words
pub three_words : (text : List ℕ) (count : ℕ)
    → ((words : List (List ℕ)) → HasParts 32 text words → count ≡ length words) → (x : Sample) → ReadsSample text x
    → count ≡ 3
three_words text count counts x reads = counts (sample_words x) (sample_parts text x reads)

pub has_three : (text : List ℕ) (count : ℕ) → ((words : List (List ℕ)) → HasParts 32 text words → count ≡ length words)
    → count ≡ 3 → HasThreeWords text
has_three text count counts three = let is = HasParts-split 32 text in (_, is, sym (counts _ is) ∙ three)

pub three_texts : (words : List (Bor (List ℕ))) (d : Bor (List ℕ)) → length words ≡ 3
    → texts words ≡ (get_or words 0 d).now ∷ (get_or words 1 d).now ∷ (get_or words 2 d).now ∷ []
three_texts [] d h = cc
three_texts (a ∷ []) d h = cc
three_texts (a ∷ b ∷ []) d h = cc
three_texts (a ∷ b ∷ c ∷ []) d h = refl
three_texts (a ∷ b ∷ c ∷ e ∷ more) d h = absurd (omega (arith, h))

pub length-IsSample : (words : List (Bor (List ℕ))) (x : Sample) → IsSample (texts words) x → length words ≡ 3
length-IsSample words x (e, rtt, some, most) =
    let same : length (texts words) ≡ length words = simp length-map in
    sym same ∙ ap length e
