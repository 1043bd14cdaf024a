-- Kinds and names are compared by tests.
use Rattle.std.proofs.Common.{◌≡◌, ℕ, zero, suc, true, List, refl, sym, ap, ◌∙◌}
use Rattle.std.specs.Prelude.{Some, ◌==◌}
use Rattle.std.specs.Str.{bytes_eq}
use Rattle.std.proofs.lemmas.Bool.{eqb-true, and_parts}
use Rattle.std.proofs.lemmas.Slice.Eq.{bytes_eq-Decides}
use Rattle.sym_base.specs.declared.kind.Kind.{Kind}
use Rattle.sym_base.specs.declared.kind.Kind.TheVariants.{Process, Thread, Mutex, Semaphore, Server, Session}
use Rattle.state_rows.specs.declared.object.ObjectRow.{ObjectRow}
use Rattle.state_rows.specs.ObjectRows.{has_name}
use Rattle.sym_base.specs.KindNumber.{kind_number}

-- the kind of a number
kind_of : ℕ → Kind
kind_of zero = Process
kind_of (suc zero) = Thread
kind_of (suc (suc zero)) = Mutex
kind_of (suc (suc (suc zero))) = Semaphore
kind_of (suc (suc (suc (suc zero)))) = Server
kind_of (suc (suc (suc (suc (suc n))))) = Session

-- a kind is that of its number
kind_again : (kind : Kind) → kind_of (kind_number kind) ≡ kind
unfolding kind_of
kind_again Process = refl
kind_again Thread = refl
kind_again Mutex = refl
kind_again Semaphore = refl
kind_again Server = refl
kind_again Session = refl

-- kinds that pass the test are one
pub is_kind-true : (one other : Kind) → (kind_number one == kind_number other) ≡ true → one ≡ other
is_kind-true one other same = sym (kind_again one) ∙ ap kind_of (eqb-true (kind_number one) (kind_number other) same) ∙ kind_again other

-- names that pass the test are one
pub bytes_eq-true : (one other : List ℕ) → bytes_eq one other ≡ true → one ≡ other
bytes_eq-true one other same = (bytes_eq-Decides one other).0 same

-- a row that has a kind and a name is of that kind, and its name is that name
pub has_name-kind : (kind : Kind) (name : List ℕ) (row : ObjectRow) → has_name kind name (Some row) ≡ true → row.kind ≡ kind
has_name-kind kind name row has = is_kind-true row.kind kind (and_parts (kind_number row.kind == kind_number kind) (bytes_eq row.name name) has).0

pub has_name-name : (kind : Kind) (name : List ℕ) (row : ObjectRow) → has_name kind name (Some row) ≡ true → row.name ≡ name
has_name-name kind name row has = bytes_eq-true row.name name (and_parts (kind_number row.kind == kind_number kind) (bytes_eq row.name name) has).1
