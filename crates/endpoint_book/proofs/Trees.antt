-- What a change of the map changes of the entries by name.
use Rattle.std.proofs.Common.{◌≡◌, ℕ, List, Some, ◌∙◌, ap, cond, arith}
use Rattle.std.specs.Prelude.{bytes_eq, option_map, if◌then◌else◌}
use Rattle.std.specs.BTreeMap.{BTreeMap, get, is_at, WritesThrough}
use Rattle.std.specs.Cmp.Lexicographic.{bytes_decides}
use Rattle.std.proofs.lemmas.Map.Text.{is_eq-slice_cmp}
use Rattle.endpoint_book.specs.declared.entries.Entries.{Entries}
use Rattle.endpoint_book.specs.declared.entry.Entry.{Entry}
use Rattle.endpoint_book.specs.declared.key.NameKey.{NameKey}
use Rattle.endpoint_book.specs.Fields.{name_cmp, entry_in}

-- one more entry, or another one of the same name
pub put_in : (old new : Entries) (e : Entry) (asked : List ℕ)
    → ((q : NameKey) → get name_cmp new.by_name q ≡ cond (is_at (name_cmp (record { name = e.name })) q) (Some e)
    (get name_cmp old.by_name q))
    → entry_in new asked ≡ (if bytes_eq e.name asked then Some e else entry_in old asked)
put_in old new e asked updated = updated (record { name = asked }) ∙ ap (λ b. cond b (Some e) (entry_in old asked))
    (is_eq-slice_cmp e.name asked)

-- the entry of this name is changed
pub changed_in : (old : Entries) (new : BTreeMap NameKey Entry) (name asked : List ℕ) (e : Entry) (change : Entry
    → Entry) → Some e ≡ entry_in old name
    → WritesThrough name_cmp (name_cmp (record { name = name })) old.by_name (change e) new
    → entry_in (record { by_name = new }) asked ≡ option_map (λ x. if bytes_eq name asked then change x else x)
    (entry_in old asked)
changed_in old new name asked e change there written = grind (arith, is_eq-slice_cmp, bytes_decides)
