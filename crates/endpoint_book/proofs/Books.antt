-- What holds of a book's fields stays so, and what a call makes of the book.
use Rattle.std.proofs.Common.{◌≡◌, ℕ, ◌+◌, ◌≤◌, true, List, [], ◌∷◌, ◌++◌, Option, Some, None, length, refl, sym, ◌∙◌}
use Rattle.std.proofs.Common.{ap, cond, arith, subst, length-append}
use Rattle.std.specs.Prelude.{filter, filter_map, count_by, is_some, max, option_map}
use Rattle.endpoint_book.specs.declared.entries.Entries.{Entries}
use Rattle.endpoint_book.specs.declared.entry.Change.{Change}
use Rattle.endpoint_book.specs.declared.entry.Entry.{Entry}
use Rattle.endpoint_book.specs.declared.entry.Kind.TheVariants.{Put}
use Rattle.endpoint_book.specs.declared.limits.TheConstants.{MAX_FLAGS}
use Rattle.endpoint_book.specs.Topics.{TopicsValue}
use Rattle.endpoint_book.specs.Entries.{BookValue, now_of, is_flag, is_put, is_from, is_known, settled_at, change_at}
use Rattle.endpoint_book.specs.Entries.{entry_of, with_put, with_restored, with_change, with_settled}
use Rattle.endpoint_book.specs.Fields.{AreNames, AreChanges, IsBook, Changes, Puts, IsSame, SettlesBelow, entry_in}
use Rattle.endpoint_book.specs.Fields.{listed}
use Rattle.endpoint_book.specs.Book.{endpoint_by_entry}
use Rattle.endpoint_book.specs.Waiting.{IsInStep}
use Rattle.endpoint_book.proofs.InStep.{IsWithin, step_changed, step_later, step_put, step_restored, step_settled}
use Rattle.endpoint_book.proofs.Names.{found, changed-names, changed-listed, names_apart, put-names, put-listed}
use Rattle.endpoint_book.proofs.Names.{change_at-name}
use Rattle.endpoint_book.proofs.Queues.{changes-push, changes-keep, changes-later, puts_kept}

-- the book with these fields, and its changes below the next record
abbrev value_of : Entries → List (List ℕ) → TopicsValue → List Change → ℕ → ℕ → BookValue
value_of entries names ts cs next settled = record {
  entries = listed entries names;
  changes = cs;
  topics =
      ts;
  next_seq = next;
  settled_seq = settled;
}

within : {entries : Entries} {names : List (List ℕ)} {cs : List Change} {flags puts capacity next settled : ℕ}
    (ts : TopicsValue) → IsBook entries names cs flags puts capacity next settled
    → IsWithin (value_of entries names ts cs next settled)
within {next = next} ts h = (h.are_changes.parted, h.are_changes.below_next next (omega arith))

-- What a call makes of the book

pub change-value : (book : BookValue) (entries later : Entries) (names : List (List ℕ)) (ts : TopicsValue)
    (cs : List Change) (c : Change) (next settled : ℕ) (change : Entry → Entry)
    → AreNames (entry_in entries) names
    → record { entries = listed entries names; changes = cs; topics = ts; next_seq = next; settled_seq = settled }
    ≡ book
    → Changes entries later c.name change
    → Some c.shown ≡ option_map (λ e. now_of (change e)) (entry_in entries c.name)
    → record {
      entries = listed later names;
      changes = cs ++ c ∷ [];
      topics = ts;
      next_seq = c.seq + 1;
      settled_seq =
          settled;
    } ≡ with_change book c.seq c.name c.kind change
change-value book entries later names ts cs c next settled change h is changed shown =
    grind (
      arith,
      changed-listed (entry_in entries) names (change_at c.name change) h,
      found (entry_in entries) names c.name h,
    )

pub put-value : (book : BookValue) (entries later : Entries) (names : List (List ℕ)) (ts : TopicsValue)
    (cs : List Change) (e : Entry) (next settled : ℕ)
    → AreNames (entry_in entries) names
    → record { entries = listed entries names; changes = cs; topics = ts; next_seq = next; settled_seq = settled }
    ≡ book
    → entry_in entries e.name ≡ None → Puts entries later e
    → record {
      entries = listed later (names ++ e.name ∷ []);
      changes =
          cs ++ record { seq = e.put; name = e.name; kind = Put; shown = now_of e } ∷ [];
      topics = ts;
      next_seq =
          e.put + 1;
      settled_seq = settled;
    } ≡ with_put book e
put-value book entries later names ts cs e next settled h is unknown put = grind
    (arith, put-listed (entry_in entries) names e unknown h)

pub settled-value : (book : BookValue) (entries later : Entries) (names : List (List ℕ)) (ts : TopicsValue)
    (cs : List Change) (next settled place : ℕ)
    → AreNames (entry_in entries) names
    → record { entries = listed entries names; changes = cs; topics = ts; next_seq = next; settled_seq = settled }
    ≡ book
    → SettlesBelow place cs entries later
    → record {
      entries = listed later names;
      changes = filter (is_from place) cs;
      topics = ts;
      next_seq =
          max next place;
      settled_seq = place;
    } ≡ with_settled book place
settled-value book entries later names ts cs next settled place h is changed =
    (λ i. record {
      entries = (ap (λ g. filter_map g names) (λ j asked. changed asked j) ∙ changed-listed (entry_in entries) names
          (settled_at place cs) h) i;
      changes = filter (is_from place) cs;
      topics = ts;
      next_seq = max next place;
      settled_seq = place;
    })
    ∙ ap (λ b. with_settled b place) is

pub restored-value : (book : BookValue) (entries later : Entries) (names : List (List ℕ)) (ts : TopicsValue)
    (cs : List Change) (e : Entry) (next settled : ℕ)
    → AreNames (entry_in entries) names
    → record { entries = listed entries names; changes = cs; topics = ts; next_seq = next; settled_seq = settled }
    ≡ book
    → entry_in entries e.name ≡ None → Puts entries later e
    → record {
      entries = listed later (names ++ e.name ∷ []);
      changes = cs;
      topics = ts;
      next_seq =
          e.put + 1;
      settled_seq = e.put + 1;
    } ≡ with_restored book e
restored-value book entries later names ts cs e next settled h is unknown put = grind
    (arith, put-listed (entry_in entries) names e unknown h)

-- the entry of the change's name is changed
pub book-change : (entries later : Entries) (names : List (List ℕ)) (cs : List Change) (c : Change)
    (flags puts capacity next settled more_flags room : ℕ) (change : Entry → Entry)
    → IsBook entries names cs flags puts capacity next settled → ((e : Entry) → (change e).name ≡ e.name)
    → Changes entries later c.name change
    → next ≤ c.seq → puts ≡ puts + cond (is_put c) 1 0 → more_flags ≡ flags + cond (is_flag c) 1 0
    → more_flags ≤ MAX_FLAGS → length cs + 1 + MAX_FLAGS ≤ room + more_flags
    → Some c.shown ≡ option_map (λ e. now_of (change e)) (entry_in entries c.name)
    → ((e : Entry) → endpoint_by_entry (change e) ≡ endpoint_by_entry e)
    → ((e : Entry) → (change e).settled ≡ e.settled)
    → IsBook later names (cs ++ c ∷ []) more_flags puts room (c.seq + 1) settled
book-change entries later names cs c flags puts capacity next settled more_flags room change h keeps changed above p f
    few fits shown fields settles = record {
      are_names = subst (λ g. AreNames g names) (λ i asked. sym (changed asked) i)
          (changed-names (entry_in entries) names (change_at c.name change) (change_at-name c.name change keeps)
          h.are_names);
      apart = h.apart;
      are_changes = changes-push cs c flags puts capacity next settled more_flags puts room h.are_changes above f p few
          fits;
      puts_within = h.puts_within;
      in_step = λ ts. subst IsInStep
          (sym (change-value (value_of entries names ts cs next settled) entries later names ts cs c next settled change
          h.are_names refl changed shown))
          (step_changed (value_of entries names ts cs next settled) c.seq c.name c.kind change (h.in_step ts)
          (within ts h) above (there ts (entry_in entries c.name) shown
          (found (entry_in entries) names c.name h.are_names)) fields settles);
    }
  where
    there : (ts : TopicsValue) (o : Option Entry) → Some c.shown ≡ option_map (λ e. now_of (change e)) o
        → entry_of (value_of entries names ts cs next settled) c.name ≡ o
        → is_known (value_of entries names ts cs next settled) c.name ≡ true
    there ts None is same = absurd (let wrong = is in cc)
    there ts (Some e) is same = ap is_some same

-- one more entry, with the change of its Put
pub book-put : (entries later : Entries) (names : List (List ℕ)) (cs : List Change) (e : Entry)
    (flags puts capacity next settled room : ℕ)
    → IsBook entries names cs flags puts capacity next settled → entry_in entries e.name ≡ None
    → Puts entries later e → next ≤ e.put → length cs + 1 + MAX_FLAGS ≤ room + flags → e.settled ≡ None
    → IsBook later (names ++ e.name ∷ []) (cs ++ record { seq = e.put; name = e.name; kind = Put; shown = now_of e }
    ∷ []) flags (puts + 1) room (e.put + 1) settled
book-put entries later names cs e flags puts capacity next settled room h unknown put above fits none = record {
  are_names = subst (λ g. AreNames g (names ++ e.name ∷ [])) (λ i asked. sym (put asked) i)
      (put-names (entry_in entries) names e unknown h.are_names);
  apart = names_apart (entry_in entries) names e unknown h.are_names h.apart;
  are_changes =
      changes-push cs (record { seq = e.put; name = e.name; kind = Put; shown = now_of e }) flags puts capacity next
      settled flags (puts + 1) room h.are_changes above
      (omega arith) refl h.are_changes.few fits;
  puts_within = omega (arith, h.puts_within, length-append names (e.name ∷ []));
  in_step = λ ts. subst IsInStep
      (sym (put-value (value_of entries names ts cs next settled) entries later names ts cs e next settled h.are_names
      refl unknown put))
      (step_put (value_of entries names ts cs next settled) e (h.in_step ts) (within ts h) above
      (found (entry_in entries) names e.name h.are_names ∙ unknown) none);
}

-- the same entries, with more room
pub book-same : (entries later : Entries) (names : List (List ℕ)) (cs : List Change)
    (flags puts capacity next settled room : ℕ)
    → IsBook entries names cs flags puts capacity next settled → IsSame entries later → capacity ≤ room
    → IsBook later names cs flags puts room next settled
book-same entries later names cs flags puts capacity next settled room h same more = record {
  are_names = subst (λ g. AreNames g names) (λ i asked. sym (same asked) i) h.are_names;
  apart = h.apart;
  are_changes = record {
    parted = h.are_changes.parted;
    below_next = h.are_changes.below_next;
    waiting = h.are_changes.waiting;
    settled_next = h.are_changes.settled_next;
    sparse = h.are_changes.sparse;
    flags_are = h.are_changes.flags_are;
    puts_are = h.are_changes.puts_are;
    few = h.are_changes.few;
    room = omega (arith, h.are_changes.room, more);
  };
  puts_within = h.puts_within;
  in_step = λ ts. subst
      (λ g. IsInStep (record {
        entries = filter_map g names;
        changes = cs;
        topics = ts;
        next_seq = next;
        settled_seq =
            settled;
      })) (λ i asked. sym (same asked) i) (h.in_step ts);
}

-- the same fields, with a later next record
pub book-later : (entries : Entries) (names : List (List ℕ)) (cs : List Change)
    (flags puts capacity next settled later : ℕ)
    → IsBook entries names cs flags puts capacity next settled → next ≤ later
    → IsBook entries names cs flags puts capacity later settled
book-later entries names cs flags puts capacity next settled later h above = record {
  are_names = h.are_names;
  apart = h.apart;
  are_changes = changes-later cs flags puts capacity next settled later h.are_changes above;
  puts_within = h.puts_within;
  in_step = λ ts. step_later (value_of entries names ts cs next settled) later (h.in_step ts) (within ts h) above;
}

-- more records are settled
pub book-settled : (entries later : Entries) (names : List (List ℕ)) (cs : List Change)
    (flags puts capacity next settled place : ℕ) → IsBook entries names cs flags puts capacity next settled
    → settled ≤ place
    → SettlesBelow place cs entries later
    → IsBook later names (filter (is_from place) cs) (count_by is_flag (filter (is_from place) cs))
    (count_by is_put (filter (is_from place) cs)) capacity (max next place) place
book-settled entries later names cs flags puts capacity next settled place h later_place changed = record {
  are_names = subst (λ g. AreNames g names) (λ i asked. sym (changed asked) i)
      (changed-names (entry_in entries) names (settled_at place cs) (λ name e. refl) h.are_names);
  apart = h.apart;
  are_changes = changes-keep cs flags puts capacity next settled place h.are_changes later_place;
  puts_within = omega (arith, h.puts_within, h.are_changes.puts_are, puts_kept cs place);
  in_step = λ ts. subst IsInStep
      (sym (settled-value (value_of entries names ts cs next settled) entries later names ts cs next settled place
      h.are_names refl changed))
      (step_settled (value_of entries names ts cs next settled) place (h.in_step ts) (within ts h));
}

-- what the book's value has of a name is what a look-up finds
pub entry-value : (book : BookValue) (entries : Entries) (names : List (List ℕ)) (ts : TopicsValue) (cs : List Change)
    (next settled : ℕ) (name : List ℕ)
    → AreNames (entry_in entries) names
    → record { entries = listed entries names; changes = cs; topics = ts; next_seq = next; settled_seq = settled }
    ≡ book → entry_in entries name ≡ entry_of book name
entry-value book entries names ts cs next settled name h is = sym (found (entry_in entries) names name h)
    ∙ ap (λ b. entry_of b name) is

-- one more entry, all of whose changes are settled

changes-none : (flags puts capacity next settled place : ℕ) → AreChanges [] flags puts capacity next settled
    → AreChanges [] flags puts capacity place place
changes-none flags puts capacity next settled place h = grind arith

pub book-restored : (entries later : Entries) (names : List (List ℕ)) (cs : List Change) (e : Entry)
    (flags puts capacity next settled : ℕ)
    → IsBook entries names cs flags puts capacity next settled → cs ≡ [] → entry_in entries e.name ≡ None
    → Puts entries later e
    → next ≤ e.put → e.settled ≡ Some (now_of e) → IsBook later (names ++ e.name ∷ []) cs flags puts capacity
    (e.put + 1) (e.put + 1)
book-restored entries later names cs e flags puts capacity next settled h none unknown put above shown = record {
  are_names = subst (λ g. AreNames g (names ++ e.name ∷ [])) (λ i asked. sym (put asked) i)
      (put-names (entry_in entries) names e unknown h.are_names);
  apart = names_apart (entry_in entries) names e unknown h.are_names h.apart;
  are_changes = subst (λ ds. AreChanges ds flags puts capacity (e.put + 1) (e.put + 1)) (sym none)
      (changes-none flags puts capacity next settled (e.put + 1)
      (subst (λ ds. AreChanges ds flags puts capacity next settled) none h.are_changes));
  puts_within = omega (arith, h.puts_within, length-append names (e.name ∷ []));
  in_step = λ ts. subst IsInStep
      (sym (restored-value (value_of entries names ts cs next settled) entries later names ts cs e next settled
      h.are_names refl unknown put))
      (step_restored (value_of entries names ts cs next settled) e (h.in_step ts) none above
      (found (entry_in entries) names e.name h.are_names ∙ unknown) shown);
}
