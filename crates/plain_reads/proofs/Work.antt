-- The first of what an owner has of its closing servers.
use Rattle.std.proofs.Common.{◌≡◌, Bool, true, false, if◌then◌else◌, cond, List, [], ◌∷◌, ◌++◌, map, Option, Some, None, refl, ap, ◌∙◌}
use Rattle.std.specs.Prelude.{slice_get}
use Rattle.std.specs.List.{find}
use Rattle.sym_base.specs.declared.number.ObjNo.{ObjNo}
use Rattle.state_rows.specs.declared.messages.Message.{Message}
use Rattle.state_rows.specs.ServerRows.{is_closing}
use Rattle.machine.specs.declared.holding.Holding.{Holding}
use Rattle.machine.specs.declared.holding.Holding.TheVariants.{Message as OfMessage, Link as OfLink, Server as OfServer}
use Rattle.machine.specs.declared.state.State.{State}
use Rattle.machine.specs.Holdings.{server_holdings, closing_holdings}

-- what there is of a server, of its messages and its linked sessions
abbrev pub work_by_parts : List Message → List ObjNo → ObjNo → List Holding
work_by_parts messages sessions o = map (λ (m : Message). OfMessage m.number) messages ++ map (λ s. OfLink s o) sessions ++ OfServer o ∷ []

-- a message comes first, then a link, then the server
pub message_first : (messages : List Message) (sessions : List ObjNo) (o : ObjNo) (m : Message)
    → slice_get messages 0 ≡ Some m → slice_get (work_by_parts messages sessions o) 0 ≡ Some (OfMessage m.number)
message_first [] sessions o m is = absurd (cc)
message_first (x ∷ xs) sessions o m is = cc

pub link_first : (messages : List Message) (sessions : List ObjNo) (o s : ObjNo) → slice_get messages 0 ≡ None
    → slice_get sessions 0 ≡ Some s → slice_get (work_by_parts messages sessions o) 0 ≡ Some (OfLink s o)
link_first [] [] o s none is = absurd (cc)
link_first [] (x ∷ xs) o s none is = cc
link_first (x ∷ xs) sessions o s none is = absurd (cc)

pub server_first : (messages : List Message) (sessions : List ObjNo) (o : ObjNo) → slice_get messages 0 ≡ None
    → slice_get sessions 0 ≡ None → slice_get (work_by_parts messages sessions o) 0 ≡ Some (OfServer o)
server_first [] [] o none is = refl
server_first [] (x ∷ xs) o none is = absurd (cc)
server_first (x ∷ xs) sessions o none is = absurd (cc)

pub ruleset work_first = (message_first, link_first, server_first)

-- there is always something of a server, and that comes before what is behind it
work_before : (messages : List Message) (sessions : List ObjNo) (o : ObjNo) (rest : List Holding)
    → slice_get (work_by_parts messages sessions o ++ rest) 0 ≡ slice_get (work_by_parts messages sessions o) 0
work_before [] [] o rest = refl
work_before _ _ o rest = refl

-- so the first closing server of some has what comes first, and where none is closing there is nothing
first_if : (S : State) (x : ObjNo) (later : Option ObjNo) (rest : List Holding) (o : ObjNo) (closing : Bool)
    → (later ≡ Some o → slice_get rest 0 ≡ slice_get (server_holdings S o) 0) → cond closing (Some x) later ≡ Some o
    → slice_get ((if closing then server_holdings S x else []) ++ rest) 0 ≡ slice_get (server_holdings S o) 0
first_if S x later rest o true behind is =
    let same : x ≡ o = cc
    in work_before _ _ x rest ∙ ap (λ (y : ObjNo). slice_get (server_holdings S y) 0) same
first_if S x later rest o false behind is = behind is

pub first_of_closing : (S : State) (os : List ObjNo) (o : ObjNo) → find (is_closing S.serving.servers) os ≡ Some o
    → slice_get (closing_holdings S os) 0 ≡ slice_get (server_holdings S o) 0
first_of_closing S [] o is = absurd (cc)
first_of_closing S (x ∷ xs) o is =
    first_if S x (find (is_closing S.serving.servers) xs) (closing_holdings S xs) o (is_closing S.serving.servers x)
    (first_of_closing S xs o) is

none_if : (S : State) (x : ObjNo) (later : Option ObjNo) (rest : List Holding) (closing : Bool)
    → (later ≡ None → slice_get rest 0 ≡ None) → cond closing (Some x) later ≡ None
    → slice_get ((if closing then server_holdings S x else []) ++ rest) 0 ≡ None
none_if S x later rest true behind is = absurd (cc)
none_if S x later rest false behind is = behind is

pub none_closing : (S : State) (os : List ObjNo) → find (is_closing S.serving.servers) os ≡ None → slice_get (closing_holdings S os) 0 ≡ None
none_closing S [] is = refl
none_closing S (x ∷ xs) is =
    none_if S x (find (is_closing S.serving.servers) xs) (closing_holdings S xs) (is_closing S.serving.servers x)
    (none_closing S xs) is
