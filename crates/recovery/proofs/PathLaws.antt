-- Why SQLite refused files that held a database.
use Rattle.std.proofs.Common.{◌≡◌, ℕ, Bool, cond, List, Option, Some, inl, inr, sym, ap, subst, ◌∙◌}
use Rattle.std.specs.Prelude.{◌≢◌, IfSome}
use Rattle.sqlite.specs.Disk.{MoreFaults}
use Rattle.sqlite.specs.Files.{FailsToOpenAs, FailsToOpenFiles, HoldsDatabase, faults_left, faults_of, image_of}
use Rattle.sqlite.specs.Files.{tally_left}
use Rattle.sqlite.specs.Recovery.{Image}
use Rattle.sqlite.specs.State.{store_error}
use Rattle.sqlite.specs.Tree.{Trees}
use Rattle.sqlite.specs.declared.error.Error.{Error}
use Rattle.sqlite.specs.declared.error.Error.TheVariants.{SqliteFailure}
use Rattle.sqlite.specs.declared.error.ErrorCode.TheVariants as code
use Rattle.sqlite.specs.declared.file.Leftover.{Leftover}
use Rattle.sqlite_disk.specs.Events.{Event, replay}
use Rattle.sqlite_disk.specs.declared.Disk as disk
use Rattle.sqlite_disk.specs.declared.Files.{Files}
use Rattle.sqlite.specs.WalReads.{tally_of_files}
use Rattle.sqlite_store.specs.Report.{named}
use Rattle.sqlite_trees.specs.declared.error.StoreError.{StoreError}
use Rattle.sqlite_trees.specs.declared.error.StoreError.TheVariants as stored
use Rattle.spool.specs.declared.faults.OpenFault.{OpenFault}
use Rattle.recovery.specs.Paths.{IsOfDisk, IsOfDiskAs, unopened_fault}

-- two files as an image, and what one of the two held
abbrev pub image_of_two : List ℕ → List ℕ → Image
image_of_two log db = record { log = log; db = db }

abbrev pub seen_by : List ℕ → List ℕ → Bool → List Event → List ℕ
seen_by log db is_log history = (replay (cond is_log log db) history).seen

pub of_some : {A : Type 0} (P : A → Type 0) (o : Option A) (x : A) → o ≡ Some x → IfSome o P → P x
of_some P o x is h = subst (λ it. IfSome it P) is h

not_unfit : (kind : StoreError) → store_error kind ≢ SqliteFailure code.NotADatabase
not_unfit stored.OutOfMemory e = absurd (let no = e in cc)
not_unfit stored.Io e = absurd (let no = e in cc)
not_unfit stored.Corrupt e = absurd (let no = e in cc)
not_unfit stored.Full e = absurd (let no = e in cc)
not_unfit stored.Broken e = absurd (let no = e in cc)
not_unfit stored.Unstorable e = absurd (let no = e in cc)

module _ {D : Type 0} {g : disk.Ghosts D} (files : Files D) (rest : Leftover D g) (fault : OpenFault) where
  of_kind : (kind : StoreError) → fault ≡ unopened_fault (store_error kind)
      → MoreFaults (faults_of g files) (faults_left rest) → IsOfDiskAs kind files rest fault
  of_kind stored.OutOfMemory is more = inl is
  of_kind stored.Io is more = inr (inl (is, more))
  of_kind stored.Corrupt is more = inr (inl (is, more))
  of_kind stored.Full is more = inr (inl (is, more))
  of_kind stored.Broken is more = inr (inl (is, more))
  of_kind stored.Unstorable is more = inr (inl (is, more))

  named_so : (kind : StoreError) (error : Error)
      → (error ≢ SqliteFailure code.NotADatabase → fault ≡ unopened_fault error) → (db : Trees)
      → HoldsDatabase (image_of g files) db
      → FailsToOpenAs kind files rest error → IsOfDiskAs kind files rest fault
  named_so kind error told db holds (inl memory) = inl (told (λ e. not_unfit stored.OutOfMemory (sym memory ∙ e))
      ∙ ap unopened_fault memory)
  named_so kind error told db holds (inr (inl (refused, none))) = absurd (none (inl (db, holds)))
  named_so kind error told db holds (inr (inr (inl (is, more)))) = of_kind kind (told (λ e. not_unfit kind (sym is ∙ e))
      ∙ ap unopened_fault is) more
  named_so kind error told db holds (inr (inr (inr (full, limit)))) =
      inr (inr (told (λ e. not_unfit stored.Full (sym full ∙ e)) ∙ ap unopened_fault full, limit))

  -- files that held a database are refused only for memory or for the disk
  pub of_disk : (error : Error) → (error ≢ SqliteFailure code.NotADatabase → fault ≡ unopened_fault error)
      → (db : Trees) → HoldsDatabase (image_of g files) db
      → FailsToOpenFiles files rest error → IsOfDisk files rest fault
  of_disk error told db holds fails =
      named_so (named (tally_of_files g (files.log, files.db)) (tally_left rest)) error told db holds fails
