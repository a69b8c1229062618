-- What the rows of the tables obey, under either schema of the relay's.
use Rattle.std.proofs.Common.{◌≡◌, ◌&&◌, ◌||◌, not, inl, inr, ℕ, List, [], ◌∷◌, codes, drop, true, Option, Some}
use Rattle.std.proofs.Common.{refl, subst}
use Rattle.std.specs.List.{AllByRecursion}
use Rattle.sqlite.specs.Order.{Row}
use Rattle.sqlite.specs.Schema.{Schema}
use Rattle.sqlite_value.specs.Keys.{joined, plain}
use Rattle.sqlite_trees.specs.Tree.{Trees}
use Rattle.sqlite_schema.specs.declared.schema.Constraint.TheVariants.{Check, Datatype, ForeignKey, Unique}
use Rattle.sqlite_schema.specs.Names.{same_name}
use Rattle.sqlite_schema.specs.Rules.{Keeps, are_typed, clashes, has_null, is_held, parent_key, ParentKey}
use Rattle.sqlite_catalog.specs.Listing.{IsSound}
use Rattle.spool_sql.specs.Tables.{IsOwn, first_schema, relay_schema, reference_to, topics}

abbrev pub parent_in : ℕ → Option ParentKey
parent_in tree = Some (tree, 0 ∷ [], plain)

abbrev pub Refers : (db : Trees) (place : ℕ) (key : Option ParentKey) (tree : List Row) → Type 0
Refers db place key = AllByRecursion (λ row. (has_null (place ∷ []) row || is_held db (place ∷ []) row key) && true ≡
    true)

-- the rules of the first schema, and where a reference leads
pub record KeepsFive (db : Trees) : Type 0 where
  pub types : Keeps Datatype first_schema db
  pub checks : Keeps Check first_schema db
  pub uniques : Keeps Unique first_schema db
  pub secrets : Refers db 1 (parent_in 1) (db 3)
  pub deliveries : Refers db 2 (parent_in 1) (db 5)
  pub attempts : Refers db 2 (parent_in 5) (db 7)

first_endpoints : (place : ℕ)
    → parent_key first_schema.tables (reference_to (codes "endpoints") (codes "put") place) ≡ parent_in 1
unfolding same_name joined
first_endpoints place = refl

first_deliveries : (place : ℕ)
    → parent_key first_schema.tables (reference_to (codes "deliveries") (codes "seq") place) ≡ parent_in 5
unfolding same_name joined
first_deliveries place = refl

to_endpoints : (place : ℕ)
    → parent_key relay_schema.tables (reference_to (codes "endpoints") (codes "put") place) ≡ parent_in 1
unfolding same_name joined
to_endpoints place = refl

to_deliveries : (place : ℕ)
    → parent_key relay_schema.tables (reference_to (codes "deliveries") (codes "seq") place) ≡ parent_in 5
unfolding same_name joined
to_deliveries place = refl

first_keeps : (db : Trees) → IsSound first_schema db → KeepsFive db
first_keeps db sound =
    let refers = sound.obeys.rules ForeignKey in
    record {
      types = sound.obeys.rules Datatype;
      checks = sound.obeys.rules Check;
      uniques = sound.obeys.rules Unique;
      secrets = subst (λ key. Refers db 1 key (db 3)) (first_endpoints 1) refers.1.1.0;
      deliveries = subst (λ key. Refers db 2 key (db 5)) (first_endpoints 2) refers.1.1.1.0;
      attempts = subst (λ key. Refers db 2 key (db 7)) (first_deliveries 2) refers.1.1.1.1.0;
    }

relay_keeps : (db : Trees) → IsSound relay_schema db → KeepsFive db
relay_keeps db sound =
    let types = sound.obeys.rules Datatype in
    let checks = sound.obeys.rules Check in
    let uniques = sound.obeys.rules Unique in
    let refers = sound.obeys.rules ForeignKey in
    record {
      types = (types.0, (types.1.0, (types.1.1.0, (types.1.1.1.0, (types.1.1.1.1.0, tt)))));
      checks = (checks.0, (checks.1.0, (checks.1.1.0, (checks.1.1.1.0, (checks.1.1.1.1.0, tt)))));
      uniques = (uniques.0, (uniques.1.0, (uniques.1.1.0, (uniques.1.1.1.0, (uniques.1.1.1.1.0, tt)))));
      secrets = subst (λ key. Refers db 1 key (db 3)) (to_endpoints 1) refers.1.1.0;
      deliveries = subst (λ key. Refers db 2 key (db 5)) (to_endpoints 2) refers.1.1.1.0;
      attempts = subst (λ key. Refers db 2 key (db 7)) (to_deliveries 2) refers.1.1.1.1.0;
    }

-- the rules of the sixth table
pub record KeepsTopics (db : Trees) : Type 0 where
  pub types : AllByRecursion (λ r. are_typed topics.key 0 topics.columns (drop 1 r) && true ≡ true) (db 9)
  pub uniques : AllByRecursion (λ row. not (clashes plain (1 ∷ 2 ∷ []) (db 9) row) && true ≡ true) (db 9)
  pub endpoints : Refers db 2 (parent_in 1) (db 9)

pub keeps_topics : (db : Trees) → IsSound relay_schema db → KeepsTopics db
keeps_topics db sound =
    let types = sound.obeys.rules Datatype in
    let uniques = sound.obeys.rules Unique in
    let refers = sound.obeys.rules ForeignKey in
    record {
      types = types.1.1.1.1.1.0;
      uniques = uniques.1.1.1.1.1.0;
      endpoints = subst (λ key. Refers db 2 key (db 9)) (to_endpoints 2) refers.1.1.1.1.1.0;
    }

pub keeps_five : (schema : Schema) (db : Trees) → IsOwn schema → IsSound schema db → KeepsFive db
keeps_five schema db (inl is) sound = first_keeps db (subst (λ s. IsSound s db) is sound)
keeps_five schema db (inr is) sound = relay_keeps db (subst (λ s. IsSound s db) is sound)
