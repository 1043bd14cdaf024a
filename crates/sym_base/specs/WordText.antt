-- The first words of instructions: how each is printed, and which word a text is.
use Rattle.sym_base.specs.declared.word.Word.{Word}
use Rattle.sym_base.specs.declared.word.Word.TheVariants.{Create, Open, Dup, Duplocal, Close, Lock, Unlock, Wait, Signal, Suspend, Resume, Priority, Kill, Terminate, Panic, Exittype, Logon, Exit, Flock, Funlock, Fswait, Fssignal, Enter, Leave, Queue, Request, Cancel, Waitany, Waitfor, Status, Server, Connect, Send, Call, Receive, Complete, Function, Read, Write, Fill, Peek}
use Rattle.std.specs.List.{find, filter}
use Rattle.std.specs.Prelude.{ℕ, Bool, false, ◌==◌, List, [], ◌∷◌, Option, codes}
use Rattle.std.specs.Str.{bytes_eq}

-- as it stands in a script
unfoldable pub word_text : Word → List ℕ
word_text Create = codes "create"
word_text Open = codes "open"
word_text Dup = codes "dup"
word_text Duplocal = codes "duplocal"
word_text Close = codes "close"
word_text Lock = codes "lock"
word_text Unlock = codes "unlock"
word_text Wait = codes "wait"
word_text Signal = codes "signal"
word_text Suspend = codes "suspend"
word_text Resume = codes "resume"
word_text Priority = codes "priority"
word_text Kill = codes "kill"
word_text Terminate = codes "terminate"
word_text Panic = codes "panic"
word_text Exittype = codes "exittype"
word_text Logon = codes "logon"
word_text Exit = codes "exit"
word_text Flock = codes "flock"
word_text Funlock = codes "funlock"
word_text Fswait = codes "fswait"
word_text Fssignal = codes "fssignal"
word_text Enter = codes "enter"
word_text Leave = codes "leave"
word_text Queue = codes "queue"
word_text Request = codes "request"
word_text Cancel = codes "cancel"
word_text Waitany = codes "waitany"
word_text Waitfor = codes "waitfor"
word_text Status = codes "status"
word_text Server = codes "server"
word_text Connect = codes "connect"
word_text Send = codes "send"
word_text Call = codes "call"
word_text Receive = codes "receive"
word_text Complete = codes "complete"
word_text Function = codes "function"
word_text Read = codes "read"
word_text Write = codes "write"
word_text Fill = codes "fill"
word_text Peek = codes "peek"

-- each of them
abbrev pub all_words : List Word
all_words =
    Create ∷ Open ∷ Dup ∷ Duplocal ∷ Close ∷ Lock ∷ Unlock ∷ Wait ∷ Signal ∷ Suspend ∷ Resume ∷ Priority ∷ Kill ∷
    Terminate ∷ Panic ∷ Exittype ∷ Logon ∷ Exit ∷ Flock ∷ Funlock ∷ Fswait ∷ Fssignal ∷ Enter ∷ Leave ∷ Queue ∷ Request
    ∷ Cancel ∷ Waitany ∷ Waitfor ∷ Status ∷ Server ∷ Connect ∷ Send ∷ Call ∷ Receive ∷ Complete ∷ Function ∷ Read ∷
    Write ∷ Fill ∷ Peek ∷ []

-- the word that a text is
unfoldable pub word_of : List ℕ → Option Word
word_of text = find (λ word. bytes_eq text (word_text word)) all_words

-- those that begin with a byte
abbrev pub begins_with : ℕ → List ℕ → Bool
begins_with byte [] = false
begins_with byte (first ∷ rest) = first == byte

abbrev pub words_with : ℕ → List Word
words_with byte = filter (λ word. begins_with byte (word_text word)) all_words
