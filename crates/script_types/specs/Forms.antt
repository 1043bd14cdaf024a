-- The table of forms: the operands of each line, and the line of each word and its operands.
use Rattle.std.specs.Prelude.{ℕ, Bool, true, false, List, [], ◌∷◌, Option, Some, None}
use Rattle.script_types.specs.Operands.{Values}
use Rattle.script_types.specs.declared.declaration.Op.{Op}
use Rattle.script_types.specs.declared.instruction.Instr.{Instr}
use Rattle.script_types.specs.declared.instruction.Instr.TheVariants as instr
use Rattle.script_types.specs.declared.keyword.Keyword.{Keyword}
use Rattle.script_types.specs.declared.keyword.Keyword.TheVariants as key
use Rattle.script_types.specs.declared.operand.BodyKind.{BodyKind}
use Rattle.script_types.specs.declared.operand.BodyKind.TheVariants as body
use Rattle.script_types.specs.declared.operand.Operand.{Operand}
use Rattle.script_types.specs.declared.operand.Operand.TheVariants as operand
use Rattle.script_types.specs.declared.source_line.SourceLine.{SourceLine}
use Rattle.script_types.specs.declared.source_line.SourceLine.TheVariants as line
use Rattle.sym_base.specs.declared.word.Word.{Word}
use Rattle.sym_base.specs.declared.word.Word.TheVariants as word

-- operands that stand in several lines: a register, a message's register, a status, a device, a fast mutex, a
-- priority of threads, a number that isn't negative, and a place or a number of bytes of memory
abbrev pub register : Operand
register = operand.Lettered 114 7

abbrev pub message : Operand
message = operand.Lettered 109 7

abbrev pub status : Operand
status = operand.Lettered 115 15

abbrev pub device : Operand
device = operand.Lettered 100 15

abbrev pub fast_mutex : Operand
fast_mutex = operand.Lettered 102 15

abbrev pub priority : Operand
priority = operand.Number 0 63

abbrev pub count : Operand
count = operand.Number 0 2147483647

abbrev pub size : Operand
size = operand.Number 0 1024

-- The operands behind an instruction's word. `create` has two forms, of which the second makes a semaphore.
abbrev pub instr_operands : Word → Bool → List Operand
instr_operands word.Create false = operand.Mutex ∷ operand.Name ∷ register ∷ []
instr_operands word.Create true = operand.Semaphore ∷ operand.Name ∷ count ∷ register ∷ []
instr_operands word.Open second = operand.Kind ∷ operand.Name ∷ register ∷ []
instr_operands word.Dup second = register ∷ register ∷ []
instr_operands word.Duplocal second = register ∷ register ∷ []
instr_operands word.Close second = register ∷ []
instr_operands word.Lock second = register ∷ []
instr_operands word.Unlock second = register ∷ []
instr_operands word.Wait second = register ∷ []
instr_operands word.Signal second = register ∷ []
instr_operands word.Suspend second = register ∷ []
instr_operands word.Resume second = register ∷ []
instr_operands word.Priority second = register ∷ priority ∷ []
instr_operands word.Kill second = register ∷ operand.Code ∷ []
instr_operands word.Terminate second = register ∷ operand.Code ∷ []
instr_operands word.Panic second = register ∷ operand.Category ∷ operand.Code ∷ []
instr_operands word.Exittype second = register ∷ []
instr_operands word.Logon second = register ∷ status ∷ []
instr_operands word.Exit second = operand.Code ∷ []
instr_operands word.Flock second = fast_mutex ∷ []
instr_operands word.Funlock second = fast_mutex ∷ []
instr_operands word.Fswait second = []
instr_operands word.Fssignal second = operand.Name ∷ []
instr_operands word.Enter second = []
instr_operands word.Leave second = []
instr_operands word.Queue second = operand.Name ∷ []
instr_operands word.Request second = device ∷ status ∷ []
instr_operands word.Cancel second = device ∷ []
instr_operands word.Waitany second = []
instr_operands word.Waitfor second = status ∷ []
instr_operands word.Status second = status ∷ []
instr_operands word.Server second = operand.Name ∷ register ∷ []
instr_operands word.Connect second = operand.Name ∷ operand.Slots ∷ register ∷ []
instr_operands word.Send second = register ∷ count ∷ status ∷ operand.Argument ∷ operand.Argument ∷ operand.Argument ∷ operand.Argument ∷ []
instr_operands word.Call second = register ∷ count ∷ operand.Argument ∷ operand.Argument ∷ operand.Argument ∷ operand.Argument ∷ []
instr_operands word.Receive second = register ∷ message ∷ []
instr_operands word.Complete second = message ∷ operand.Code ∷ []
instr_operands word.Function second = message ∷ []
instr_operands word.Read second = message ∷ operand.Number 0 3 ∷ size ∷ size ∷ size ∷ []
instr_operands word.Write second = message ∷ operand.Number 0 3 ∷ size ∷ size ∷ size ∷ []
instr_operands word.Fill second = size ∷ size ∷ operand.Number 0 255 ∷ []
instr_operands word.Peek second = operand.Number 0 1023 ∷ []

-- The operands behind a line's first word, and before a body. A thread's second form is `held`, and the second form
-- of `irq`, behind `schedule`, is a slot.
abbrev pub operands_of : Keyword → Bool → List Operand
operands_of key.Eka2 second = operand.Number 1 2 ∷ []
operands_of key.Pool second = operand.Number 0 255 ∷ []
operands_of key.Fast second = operand.Number 0 16 ∷ []
operands_of key.Dfcq second = operand.Name ∷ priority ∷ []
operands_of key.Dfc second = operand.Name ∷ operand.Name ∷ operand.Number 0 7 ∷ []
operands_of key.Idfc second = operand.Name ∷ []
operands_of key.Irq second = operand.Number 0 31 ∷ []
operands_of key.Kthread false = operand.Name ∷ priority ∷ []
operands_of key.Kthread true = operand.Name ∷ priority ∷ operand.Held ∷ []
operands_of key.Process second = operand.Name ∷ []
operands_of key.Thread false = operand.Name ∷ priority ∷ []
operands_of key.Thread true = operand.Name ∷ priority ∷ operand.Held ∷ []
operands_of key.Schedule second = []
operands_of key.Go second = operand.Number 1 65536 ∷ []
operands_of key.Tick second = []
operands_of key.End second = []
operands_of (key.Instr w) second = instr_operands w second

-- whose body ends a line
abbrev pub body_of : Keyword → Bool → Option BodyKind
body_of key.Dfc second = Some body.Call
body_of key.Idfc second = Some body.Call
body_of key.Irq false = Some body.Interrupt
body_of key.Irq true = None
body_of _ second = None

-- a line as its first word, whether it is the word's second form, its operands and its body
pub record Form : Type 0 where
  pub keyword : Keyword
  pub second : Bool
  pub values : Values (operands_of keyword second)
  pub body : List Op

abbrev pub instr_with : (w : Word) → Values (instr_operands w false) → Form
instr_with w values = record { keyword = key.Instr w; second = false; values = values; body = [] }

-- each instruction, and each line
abbrev pub instr_form : Instr → Form
instr_form (instr.CreateMutex name x) = instr_with word.Create (tt, (name, (x, tt)))
instr_form (instr.CreateSemaphore name n x) = record { keyword = key.Instr word.Create; second = true; values = (tt, (name, (n, (x, tt)))); body = [] }
instr_form (instr.Open what name x) = instr_with word.Open (what, (name, (x, tt)))
instr_form (instr.Dup x y) = instr_with word.Dup (x, (y, tt))
instr_form (instr.DupLocal x y) = instr_with word.Duplocal (x, (y, tt))
instr_form (instr.Close x) = instr_with word.Close (x, tt)
instr_form (instr.Lock x) = instr_with word.Lock (x, tt)
instr_form (instr.Unlock x) = instr_with word.Unlock (x, tt)
instr_form (instr.Wait x) = instr_with word.Wait (x, tt)
instr_form (instr.Signal x) = instr_with word.Signal (x, tt)
instr_form (instr.Suspend x) = instr_with word.Suspend (x, tt)
instr_form (instr.Resume x) = instr_with word.Resume (x, tt)
instr_form (instr.Priority x p) = instr_with word.Priority (x, (p, tt))
instr_form (instr.Kill x n) = instr_with word.Kill (x, (n, tt))
instr_form (instr.Terminate x n) = instr_with word.Terminate (x, (n, tt))
instr_form (instr.Panic x category n) = instr_with word.Panic (x, (category, (n, tt)))
instr_form (instr.ExitType x) = instr_with word.Exittype (x, tt)
instr_form (instr.Logon x y) = instr_with word.Logon (x, (y, tt))
instr_form (instr.Exit n) = instr_with word.Exit (n, tt)
instr_form (instr.Flock x) = instr_with word.Flock (x, tt)
instr_form (instr.Funlock x) = instr_with word.Funlock (x, tt)
instr_form instr.Fswait = instr_with word.Fswait tt
instr_form (instr.Fssignal name) = instr_with word.Fssignal (name, tt)
instr_form instr.Enter = instr_with word.Enter tt
instr_form instr.Leave = instr_with word.Leave tt
instr_form (instr.Queue name) = instr_with word.Queue (name, tt)
instr_form (instr.Request x y) = instr_with word.Request (x, (y, tt))
instr_form (instr.Cancel x) = instr_with word.Cancel (x, tt)
instr_form instr.WaitAny = instr_with word.Waitany tt
instr_form (instr.WaitFor x) = instr_with word.Waitfor (x, tt)
instr_form (instr.Status x) = instr_with word.Status (x, tt)
instr_form (instr.Server name x) = instr_with word.Server (name, (x, tt))
instr_form (instr.Connect name slots x) = instr_with word.Connect (name, (slots, (x, tt)))
instr_form (instr.Send x n y args) = instr_with word.Send (x, (n, (y, (args.0, (args.1, (args.2, (args.3, tt)))))))
instr_form (instr.Call x n args) = instr_with word.Call (x, (n, (args.0, (args.1, (args.2, (args.3, tt))))))
instr_form (instr.Receive x y) = instr_with word.Receive (x, (y, tt))
instr_form (instr.Complete x n) = instr_with word.Complete (x, (n, tt))
instr_form (instr.Function x) = instr_with word.Function (x, tt)
instr_form (instr.Read x a offset length at) = instr_with word.Read (x, (a, (offset, (length, (at, tt)))))
instr_form (instr.Write x a offset length from) = instr_with word.Write (x, (a, (offset, (length, (from, tt)))))
instr_form (instr.Fill at length byte) = instr_with word.Fill (at, (length, (byte, tt)))
instr_form (instr.Peek at) = instr_with word.Peek (at, tt)

abbrev pub line_with : (k : Keyword) → Values (operands_of k false) → Form
line_with k values = record { keyword = k; second = false; values = values; body = [] }

abbrev pub form_of : SourceLine → Form
form_of (line.Header version) = line_with key.Eka2 (version, tt)
form_of (line.Pool n) = line_with key.Pool (n, tt)
form_of (line.Fast n) = line_with key.Fast (n, tt)
form_of (line.Queue name p) = line_with key.Dfcq (name, (p, tt))
form_of (line.Dfc name queue p ops) = record { keyword = key.Dfc; second = false; values = (name, (queue, (p, tt))); body = ops }
form_of (line.Idfc name ops) = record { keyword = key.Idfc; second = false; values = (name, tt); body = ops }
form_of (line.IrqBody k ops) = record { keyword = key.Irq; second = false; values = (k, tt); body = ops }
form_of (line.KernelThread name p false) = line_with key.Kthread (name, (p, tt))
form_of (line.KernelThread name p true) = record { keyword = key.Kthread; second = true; values = (name, (p, (tt, tt))); body = [] }
form_of (line.Process name) = line_with key.Process (name, tt)
form_of (line.Thread name p false) = line_with key.Thread (name, (p, tt))
form_of (line.Thread name p true) = record { keyword = key.Thread; second = true; values = (name, (p, (tt, tt))); body = [] }
form_of line.Schedule = line_with key.Schedule tt
form_of (line.Go n) = line_with key.Go (n, tt)
form_of (line.IrqSlot k) = record { keyword = key.Irq; second = true; values = (k, tt); body = [] }
form_of line.Tick = line_with key.Tick tt
form_of line.End = line_with key.End tt
form_of (line.Instr what) = instr_form what

-- the instruction and the line of a word and its operands
abbrev pub instr_of : (w : Word) (second : Bool) → Values (instr_operands w second) → Instr
instr_of word.Create false values = instr.CreateMutex values.1.0 values.1.1.0
instr_of word.Create true values = instr.CreateSemaphore values.1.0 values.1.1.0 values.1.1.1.0
instr_of word.Open second values = instr.Open values.0 values.1.0 values.1.1.0
instr_of word.Dup second values = instr.Dup values.0 values.1.0
instr_of word.Duplocal second values = instr.DupLocal values.0 values.1.0
instr_of word.Close second values = instr.Close values.0
instr_of word.Lock second values = instr.Lock values.0
instr_of word.Unlock second values = instr.Unlock values.0
instr_of word.Wait second values = instr.Wait values.0
instr_of word.Signal second values = instr.Signal values.0
instr_of word.Suspend second values = instr.Suspend values.0
instr_of word.Resume second values = instr.Resume values.0
instr_of word.Priority second values = instr.Priority values.0 values.1.0
instr_of word.Kill second values = instr.Kill values.0 values.1.0
instr_of word.Terminate second values = instr.Terminate values.0 values.1.0
instr_of word.Panic second values = instr.Panic values.0 values.1.0 values.1.1.0
instr_of word.Exittype second values = instr.ExitType values.0
instr_of word.Logon second values = instr.Logon values.0 values.1.0
instr_of word.Exit second values = instr.Exit values.0
instr_of word.Flock second values = instr.Flock values.0
instr_of word.Funlock second values = instr.Funlock values.0
instr_of word.Fswait second values = instr.Fswait
instr_of word.Fssignal second values = instr.Fssignal values.0
instr_of word.Enter second values = instr.Enter
instr_of word.Leave second values = instr.Leave
instr_of word.Queue second values = instr.Queue values.0
instr_of word.Request second values = instr.Request values.0 values.1.0
instr_of word.Cancel second values = instr.Cancel values.0
instr_of word.Waitany second values = instr.WaitAny
instr_of word.Waitfor second values = instr.WaitFor values.0
instr_of word.Status second values = instr.Status values.0
instr_of word.Server second values = instr.Server values.0 values.1.0
instr_of word.Connect second values = instr.Connect values.0 values.1.0 values.1.1.0
instr_of word.Send second values =
    instr.Send values.0 values.1.0 values.1.1.0
    (record { 0 = values.1.1.1.0; 1 = values.1.1.1.1.0; 2 = values.1.1.1.1.1.0; 3 = values.1.1.1.1.1.1.0 })
instr_of word.Call second values =
    instr.Call values.0 values.1.0 (record {
      0 = values.1.1.0;
      1 = values.1.1.1.0;
      2 = values.1.1.1.1.0;
      3 = values.1.1.1.1.1.0;
    })
instr_of word.Receive second values = instr.Receive values.0 values.1.0
instr_of word.Complete second values = instr.Complete values.0 values.1.0
instr_of word.Function second values = instr.Function values.0
instr_of word.Read second values = instr.Read values.0 values.1.0 values.1.1.0 values.1.1.1.0 values.1.1.1.1.0
instr_of word.Write second values = instr.Write values.0 values.1.0 values.1.1.0 values.1.1.1.0 values.1.1.1.1.0
instr_of word.Fill second values = instr.Fill values.0 values.1.0 values.1.1.0
instr_of word.Peek second values = instr.Peek values.0

abbrev pub line_of : (k : Keyword) (second : Bool) → Values (operands_of k second) → List Op → SourceLine
line_of key.Eka2 second values ops = line.Header values.0
line_of key.Pool second values ops = line.Pool values.0
line_of key.Fast second values ops = line.Fast values.0
line_of key.Dfcq second values ops = line.Queue values.0 values.1.0
line_of key.Dfc second values ops = line.Dfc values.0 values.1.0 values.1.1.0 ops
line_of key.Idfc second values ops = line.Idfc values.0 ops
line_of key.Irq false values ops = line.IrqBody values.0 ops
line_of key.Kthread false values ops = line.KernelThread values.0 values.1.0 false
line_of key.Kthread true values ops = line.KernelThread values.0 values.1.0 true
line_of key.Process second values ops = line.Process values.0
line_of key.Thread false values ops = line.Thread values.0 values.1.0 false
line_of key.Thread true values ops = line.Thread values.0 values.1.0 true
line_of key.Schedule second values ops = line.Schedule
line_of key.Go second values ops = line.Go values.0
line_of key.Irq true values ops = line.IrqSlot values.0
line_of key.Tick second values ops = line.Tick
line_of key.End second values ops = line.End
line_of (key.Instr w) second values ops = line.Instr (instr_of w second values)
