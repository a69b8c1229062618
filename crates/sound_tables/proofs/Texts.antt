-- The SELECT statements that read a whole table.
use Rattle.std.proofs.Common.{◌≡◌, inl, inr, ℕ, List, [], ◌∷◌, length, codes, true, false, None, Ok, refl, sym, subst}
use Rattle.sqlite.specs.Collation.TheVariants.{Binary}
use Rattle.sqlite_value.specs.Keys.{ascending}
use Rattle.sqlite_value.specs.declared.keys.Key.{Key}
use Rattle.sqlite.specs.Term.{Term, col}
use Rattle.sqlite.specs.Query.{Query}
use Rattle.sqlite.specs.Command.TheVariants.{Select}
use Rattle.sqlite.specs.Listing.{understood, reads_listing}
use Rattle.sqlite_typing.specs.Types.{accepts_program}
use Rattle.sqlite_resolve.specs.declared.compiled.Compiled.{Compiled}
use Rattle.sqlite_tied.specs.Compute.{everything}
use Rattle.sqlite.specs.Schema.{Schema}
use Rattle.spool_sql.specs.Tables.{IsOwn, first_schema, relay_schema}
use Rattle.spool_sql.specs.Queries.{IsBare}
use Rattle.spool_sql.proofs.UpdateLemmas.{scan_by}

-- the order of the first column
abbrev pub in_order : List (Term × Key)
in_order = (col 1 0, ascending Binary) ∷ []

-- all rows of a tree, in that order
abbrev pub whole : ℕ → List Term → Query
whole t shown = scan_by in_order t [] shown

abbrev pub compiled_as : List ℕ → Query → List (List ℕ) → Compiled
compiled_as text q names = record {
  command = Select (record { lets = []; body = q }) names;
  names = [];
  formats = [];
  returning = None;
  start = 0;
  end = length text;
  tail = length text;
}

-- under this schema the text is this query
pub record ReadsUnder (schema : Schema) (text : List ℕ) (q : Query) (names : List (List ℕ)) : Type 0 where
  pub is : understood schema text ≡ Ok (compiled_as text q names)
  pub unlisted : reads_listing schema text ≡ false
  pub typed : accepts_program schema [] q [] ≡ true

-- so it is under these schemas, and whatever the schema is the text writes nothing
pub record ReadsTree (Known : Schema → Type 0) (text : List ℕ) (q : Query) (names : List (List ℕ)) : Type 0 where
  pub bare : IsBare text
  pub under : (schema : Schema) → Known schema → ReadsUnder schema text q names

under_own : (text : List ℕ) (q : Query) (names : List (List ℕ)) → ReadsUnder first_schema text q names
    → ReadsUnder relay_schema text q names → (schema : Schema) → IsOwn schema → ReadsUnder schema text q names
under_own text q names first relay schema (inl is) = subst (λ s. ReadsUnder s text q names) (sym is) first
under_own text q names first relay schema (inr is) = subst (λ s. ReadsUnder s text q names) (sym is) relay

abbrev pub IsRelays : Schema → Type 0
IsRelays schema = schema ≡ relay_schema

abbrev pub endpoints_text : List ℕ
endpoints_text = codes "SELECT put, name, url, max, enabled, enabled_by, secrets_by FROM endpoints ORDER BY put"

abbrev pub endpoints_columns : List Term
endpoints_columns = col 1 0 ∷ col 1 2 ∷ col 1 3 ∷ col 1 4 ∷ col 1 5 ∷ col 1 6 ∷ col 1 7 ∷ []

abbrev endpoints_names : List (List ℕ)
endpoints_names = codes "put" ∷ codes "name" ∷ codes "url" ∷ codes "max" ∷ codes "enabled" ∷ codes "enabled_by" ∷
    codes "secrets_by" ∷ []

pub endpoints_read : ReadsTree IsOwn endpoints_text (whole 1 endpoints_columns) endpoints_names
unfolding understood everything
endpoints_read = record {
  bare = λ schema base. refl;
  under = under_own endpoints_text (whole 1 endpoints_columns) endpoints_names
      (record { is = refl; unlisted = refl; typed = refl }) (record { is = refl; unlisted = refl; typed = refl });
}

abbrev pub secrets_text : List ℕ
secrets_text = codes "SELECT rowid, endpoint, place, secret FROM secrets ORDER BY rowid"

abbrev pub secrets_columns : List Term
secrets_columns = col 1 0 ∷ col 1 1 ∷ col 1 2 ∷ col 1 3 ∷ []

abbrev secrets_names : List (List ℕ)
secrets_names = codes "rowid" ∷ codes "endpoint" ∷ codes "place" ∷ codes "secret" ∷ []

pub secrets_read : ReadsTree IsOwn secrets_text (whole 3 secrets_columns) secrets_names
unfolding understood everything
secrets_read = record {
  bare = λ schema base. refl;
  under = under_own secrets_text (whole 3 secrets_columns) secrets_names
      (record { is = refl; unlisted = refl; typed = refl }) (record { is = refl; unlisted = refl; typed = refl });
}

abbrev pub deliveries_text : List ℕ
deliveries_text = codes "SELECT seq, endpoint, id, at, body FROM deliveries ORDER BY seq"

abbrev pub deliveries_columns : List Term
deliveries_columns = col 1 0 ∷ col 1 2 ∷ col 1 3 ∷ col 1 4 ∷ col 1 5 ∷ []

abbrev deliveries_names : List (List ℕ)
deliveries_names = codes "seq" ∷ codes "endpoint" ∷ codes "id" ∷ codes "at" ∷ codes "body" ∷ []

pub deliveries_read : ReadsTree IsOwn deliveries_text (whole 5 deliveries_columns) deliveries_names
unfolding understood everything
deliveries_read = record {
  bare = λ schema base. refl;
  under = under_own deliveries_text (whole 5 deliveries_columns) deliveries_names
      (record { is = refl; unlisted = refl; typed = refl }) (record { is = refl; unlisted = refl; typed = refl });
}

abbrev pub attempts_text : List ℕ
attempts_text = codes "SELECT seq, delivery, number, status, at FROM attempts ORDER BY seq"

abbrev pub attempts_columns : List Term
attempts_columns = col 1 0 ∷ col 1 2 ∷ col 1 3 ∷ col 1 4 ∷ col 1 5 ∷ []

abbrev attempts_names : List (List ℕ)
attempts_names = codes "seq" ∷ codes "delivery" ∷ codes "number" ∷ codes "status" ∷ codes "at" ∷ []

pub attempts_read : ReadsTree IsOwn attempts_text (whole 7 attempts_columns) attempts_names
unfolding understood everything
attempts_read = record {
  bare = λ schema base. refl;
  under = under_own attempts_text (whole 7 attempts_columns) attempts_names
      (record { is = refl; unlisted = refl; typed = refl }) (record { is = refl; unlisted = refl; typed = refl });
}

abbrev pub meta_text : List ℕ
meta_text = codes "SELECT k, app, version, records FROM meta ORDER BY k"

abbrev pub meta_columns : List Term
meta_columns = col 1 0 ∷ col 1 2 ∷ col 1 3 ∷ col 1 4 ∷ []

abbrev meta_names : List (List ℕ)
meta_names = codes "k" ∷ codes "app" ∷ codes "version" ∷ codes "records" ∷ []

pub meta_read : ReadsTree IsOwn meta_text (whole 0 meta_columns) meta_names
unfolding understood everything
meta_read = record {
  bare = λ schema base. refl;
  under = under_own meta_text (whole 0 meta_columns) meta_names
      (record { is = refl; unlisted = refl; typed = refl }) (record { is = refl; unlisted = refl; typed = refl });
}

abbrev pub topics_text : List ℕ
topics_text = codes "SELECT rowid, topic, endpoint, subscribed, set_by FROM topics ORDER BY rowid"

abbrev pub topics_columns : List Term
topics_columns = col 1 0 ∷ col 1 1 ∷ col 1 2 ∷ col 1 3 ∷ col 1 4 ∷ []

abbrev topics_names : List (List ℕ)
topics_names = codes "rowid" ∷ codes "topic" ∷ codes "endpoint" ∷ codes "subscribed" ∷ codes "set_by" ∷ []

pub topics_read : ReadsTree IsRelays topics_text (whole 9 topics_columns) topics_names
unfolding understood everything
topics_read = record {
  bare = λ schema base. refl;
  under = λ schema is. subst (λ s. ReadsUnder s topics_text (whole 9 topics_columns) topics_names) (sym is)
      (record { is = refl; unlisted = refl; typed = refl });
}
