-- The moves of an action, made one after the other.
use Rattle.std.proofs.Common.{◌≡◌, ℕ, suc, ◌+◌, ◌*◌, ◌<◌, ◌≤◌, add-one, drop-cons, get_or, List, [], ◌∷◌, ◌++◌, length, length-append, append_assoc, append-nil, drop, arith, ap, refl, sym, ◌∙◌, subst}
use Rattle.sym_base.specs.declared.number.ObjNo.{ObjNo}
use Rattle.entry_log.specs.declared.effect.Effect.{Effect}
use Rattle.script_types.specs.declared.declaration.Op.{Op}
use Rattle.script_types.specs.declared.script.Script.{Script}
use Rattle.machine.specs.declared.moves.Move.{Move}
use Rattle.machine.specs.declared.state.State.{State}
use Rattle.machine.specs.Arrivals.{arrive, arrivals, touched, taken_out}
use Rattle.machine.specs.Bodies.{op_moves, ops_moves}
use Rattle.machine.specs.Moves.{moved, told, perform, tell}
use Rattle.machine.specs.Room.{HasRoom}
use Rattle.plain_machine.specs.Allowed.{IsSmall}
use Rattle.plain_machine.specs.declared.course.Course.{Course}
use Rattle.plain_machine.specs.Courses.{course_after}
use Rattle.plain_machine.proofs.Rooms.{room_moved, room_less}
use Rattle.plain_machine.proofs.SmallRows.{small_moved}

-- the course after one move
abbrev pub with_move : Script → ObjNo → Move → State → Course → Course
with_move script t m S c = record { effects = c.effects ++ told m S; ready = arrive script (moved t m S) (touched t m) (taken_out m c.ready) }

-- moves behind one
course_moved : (script : Script) (t : ObjNo) (m : Move) (later : List Move) (S : State) (c : Course)
    → course_after script t later (moved t m S) (with_move script t m S c) ≡ course_after script t (m ∷ later) S c
course_moved script t m later S c =
    let behind = tell t later (moved t m S) in
    ap (course (arrivals script t (m ∷ later) S c.ready)) (append_assoc c.effects (told m S) behind)
  where
    course : List ObjNo → List Effect → Course
    course ready effects = record { effects = effects; ready = ready }

-- moves behind several
pub perform_both : (t : ObjNo) (xs ys : List Move) (S : State) → perform t ys (perform t xs S) ≡ perform t (xs ++ ys) S
perform_both t [] ys S = refl
perform_both t (m ∷ xs) ys S = perform_both t xs ys (moved t m S)

pub course_both : (script : Script) (t : ObjNo) (xs ys : List Move) (S : State) (c : Course)
    → course_after script t ys (perform t xs S) (course_after script t xs S c) ≡ course_after script t (xs ++ ys) S c
course_both script t [] ys S c = ap (course (arrivals script t ys S c.ready)) (ap (λ (es : List Effect). es ++ tell t ys S) (append-nil c.effects))
  where
    course : List ObjNo → List Effect → Course
    course ready effects = record { effects = effects; ready = ready }
course_both script t (m ∷ xs) ys S c =
    let T = moved t m S in
    ap (course_after script t ys (perform t xs T)) (sym (course_moved script t m xs S c))
    ∙ course_both script t xs ys T (with_move script t m S c)
    ∙ course_moved script t m (xs ++ ys) S c

pub room_performed : (t : ObjNo) (moves : List Move) (n : ℕ) (S : State) → HasRoom (length moves + n) S → HasRoom n (perform t moves S)
room_performed t [] n S room = subst (λ (k : ℕ). HasRoom k S) (omega arith) room
room_performed t (m ∷ moves) n S room =
    room_performed t moves n (moved t m S) (room_moved t m (length moves + n) S
    (subst (λ (k : ℕ). HasRoom k S) (omega arith) room))

pub small_performed : (t : ObjNo) (moves : List Move) (n : ℕ) (S : State) → HasRoom (length moves + n) S → IsSmall S → IsSmall (perform t moves S)
small_performed t [] n S room small = small
small_performed t (m ∷ moves) n S room small =
    let one : HasRoom (length moves + n + 1) S = subst (λ (k : ℕ). HasRoom k S) (omega arith) room in
    small_performed t moves n (moved t m S) (room_moved t m (length moves + n) S one) (small_moved t m (length moves + n) S one small)

-- Of the moves of an action the later ones are left: they lead from this state and course to those at the end, and there is
-- room for so many.
pub record IsUnderWay (script : Script) (t : ObjNo) (end : State) (whole : Course) (later : List Move) (n : ℕ) (S : State) (now : Course) : Type 0 where
  pub rows : perform t later S ≡ end
  pub course : course_after script t later S now ≡ whole
  pub room : HasRoom n S
  pub small : IsSmall S

-- several moves more
pub goes_on : (script : Script) (t : ObjNo) (end : State) (whole : Course) (moves later : List Move) (n : ℕ) (S : State) (now : Course)
    → IsUnderWay script t end whole (moves ++ later) (length moves + n) S now
    → IsUnderWay script t end whole later n (perform t moves S) (course_after script t moves S now)
goes_on script t end whole moves later n S now way = record {
  rows = perform_both t moves later S ∙ way.rows;
  course = course_both script t moves later S now ∙ way.course;
  room = room_performed t moves n S way.room;
  small = small_performed t moves n S way.room way.small;
}

-- what they tell has room
pub tells_few : (script : Script) (t : ObjNo) (end : State) (whole : Course) (moves later : List Move) (n : ℕ) (S : State) (now : Course)
    → IsUnderWay script t end whole (moves ++ later) (length moves + n) S now → length whole.effects ≤ 4 → length now.effects + length (tell t moves S) ≤ 4
tells_few script t end whole moves later n S now way few =
    let behind = goes_on script t end whole moves later n S now way in
    let all = ap (λ (c : Course). length c.effects) behind.course in
    let outer = length-append (now.effects ++ tell t moves S) (tell t later (perform t moves S)) in
    let inner = length-append now.effects (tell t moves S) in
    omega arith

-- the items that are left begin with this one
item_here : {A : Type 0} (xs : List A) (i : ℕ) (x : A) → i < length xs → x ≡ get_or xs i x → drop i xs ≡ x ∷ drop (i + 1) xs
item_here xs i x inside is = rw (add-one, drop-cons xs i x) (ap (λ y. y ∷ drop (suc i) xs) (sym is))

-- what the whole tells has room
pub whole_few : (script : Script) (t : ObjNo) (moves : List Move) (S : State) (c : Course)
    → length c.effects + length (tell t moves S) ≤ 4 → length (course_after script t moves S c).effects ≤ 4
whole_few script t moves S c few = let long = length-append c.effects (tell t moves S) in omega arith

-- the operations of a body that are left begin with this one, which makes two moves at most
pub op_here : (script : Script) (t : ObjNo) (end : State) (whole : Course) (ops : List Op) (i : ℕ) (op : Op) (made moves : List Move) (S : State) (now : Course)
    → i < length ops → op ≡ get_or ops i op → moves ≡ made → made ≡ op_moves script S op → length made ≤ 2
    → IsUnderWay script t end whole (ops_moves script t S (drop i ops)) (2 * length (drop i ops)) S now
    → IsUnderWay script t end whole (moves ++ ops_moves script t (perform t moves S) (drop (i + 1) ops)) (length moves + 2 * length (drop (i + 1) ops)) S now
op_here script t end whole ops i op made moves S now inside is same by few way =
    let rest = drop (i + 1) ops in
    let all : IsUnderWay script t end whole (ops_moves script t S (op ∷ rest)) (2 * length (op ∷ rest)) S now =
    subst (λ (l : List Op). IsUnderWay script t end whole (ops_moves script t S l) (2 * length l) S now)
    (item_here ops i op inside is) way in
    let before : IsUnderWay script t end whole (moves ++ ops_moves script t (perform t moves S) rest) (2 * length (op ∷ rest)) S now
    = subst (λ (ms : List Move). IsUnderWay script t end whole (ms ++ ops_moves script t (perform t ms S) rest)
    (2 * length (op ∷ rest)) S now) (sym (same ∙ by)) all in
    let long = ap (λ (ms : List Move). length ms) same in
    record {
      rows = before.rows;
      course = before.course;
      room = room_less (length moves + 2 * length rest) (2 * length (op ∷ rest)) S (omega arith) before.room;
      small = before.small;
    }

-- the same behind it, of what is made in between
pub ops_go_on : (script : Script) (t : ObjNo) (end : State) (whole : Course) (rest : List Op) (moves : List Move) (S T : State) (now later : Course)
    → IsUnderWay script t end whole (moves ++ ops_moves script t (perform t moves S) rest)
    (length moves + 2 * length rest) S now → T ≡ perform t moves S → later ≡ course_after script t moves S now
    → IsUnderWay script t end whole (ops_moves script t T rest) (2 * length rest) T later
ops_go_on script t end whole rest moves S T now later way new told =
    let behind = goes_on script t end whole moves (ops_moves script t (perform t moves S) rest) (2 * length rest) S now way in
    subst (λ (s : State). IsUnderWay script t end whole (ops_moves script t s rest) (2 * length rest) s later) (sym new)
    (subst (λ (c : Course). IsUnderWay script t end whole (ops_moves script t (perform t moves S) rest)
    (2 * length rest) (perform t moves S) c) (sym told) behind)

-- there is room for a body behind the leave of its queue
pub room_for_body : (t : ObjNo) (leave : List Move) (S T : State) (ops : List Op) → length leave ≤ 1 → length ops ≤ 4
    → HasRoom 9 S → T ≡ perform t leave S → HasRoom (2 * length ops) T
room_for_body t leave S T ops few short room is =
    subst (HasRoom (2 * length ops)) (sym is)
    (room_performed t leave (2 * length ops) S (room_less (length leave + 2 * length ops) 9 S (omega arith) room))

-- the moves that are left begin with this one
pub move_here : (script : Script) (t : ObjNo) (end : State) (whole : Course) (moves : List Move) (i : ℕ) (m : Move) (S : State) (now : Course)
    → i < length moves → m ≡ get_or moves i m → IsUnderWay script t end whole (drop i moves) (length (drop i moves)) S now
    → IsUnderWay script t end whole ((m ∷ []) ++ drop (i + 1) moves) (length (m ∷ []) + length (drop (i + 1) moves)) S now
move_here script t end whole moves i m S now inside is way =
    let all : IsUnderWay script t end whole (m ∷ drop (i + 1) moves) (length (m ∷ drop (i + 1) moves)) S now =
    subst (λ (l : List Move). IsUnderWay script t end whole l (length l) S now) (item_here moves i m inside is) way in
    record { rows = all.rows; course = all.course; room = subst (λ (n : ℕ). HasRoom n S) (omega arith) all.room; small = all.small }

-- what it tells has room
pub move_tells : (script : Script) (t : ObjNo) (end : State) (whole : Course) (m : Move) (later : List Move) (n : ℕ)
    (S : State) (now : Course) (more : List Effect)
    → IsUnderWay script t end whole ((m ∷ []) ++ later) (length (m ∷ []) + n) S now → length whole.effects ≤ 4
    → more ≡ told m S → length now.effects + length more ≤ 4
move_tells script t end whole m later n S now more way few tells =
    let all = tells_few script t end whole (m ∷ []) later n S now way few in
    let same = ap (λ (es : List Effect). length es) tells in
    let alone = length-append (told m S) [] in
    omega arith

-- the state and the course behind it, of what is made in between
pub move_goes_on : (script : Script) (t : ObjNo) (end : State) (whole : Course) (m : Move) (later : List Move) (n : ℕ)
    (S T : State) (now : Course) (effects more : List Effect) (out ready touches : List ObjNo)
    → IsUnderWay script t end whole ((m ∷ []) ++ later) (length (m ∷ []) + n) S now
    → T ≡ moved t m S → effects ≡ now.effects ++ more → more ≡ told m S → out ≡ taken_out m now.ready
    → ready ≡ arrive script T touches out → touches ≡ touched t m
    → IsUnderWay script t end whole later n T (record { effects = effects; ready = ready })
move_goes_on script t end whole m later n S T now effects more out ready touches way new added tells leaves arrived by =
    let behind = goes_on script t end whole (m ∷ []) later n S now way in
    let effects_now : effects ≡ now.effects ++ (told m S ++ []) = added ∙ ap (λ (es : List Effect). now.effects ++ es) (tells ∙ sym (append-nil (told m S))) in
    let ready_now : ready ≡ arrive script (moved t m S) (touched t m) (taken_out m now.ready) =
    arrived
    ∙ ap (λ (ts : List ObjNo). arrive script T ts out) by
    ∙ ap (λ (s : State). arrive script s (touched t m) out) new
    ∙ ap (arrive script (moved t m S) (touched t m)) leaves in
    subst (λ (s : State). IsUnderWay script t end whole later n s (record { effects = effects; ready = ready })) (sym new)
    (subst (λ (es : List Effect). IsUnderWay script t end whole later n (moved t m S) (record { effects = es; ready = ready })) (sym effects_now)
    (subst (λ (ts : List ObjNo). IsUnderWay script t end whole later n (moved t m S)
    (record { effects = now.effects ++ (told m S ++ []); ready = ts })) (sym ready_now) behind))
