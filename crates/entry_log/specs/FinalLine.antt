-- The line of an object that is left.
use Rattle.entry_log.specs.Joined.{joined}
use Rattle.entry_log.specs.declared.entry.FinalRow.{FinalRow}
use Rattle.std.specs.Fmt.{signed_decimal}
use Rattle.std.specs.Prelude.{ℕ, List, [], ◌∷◌, ◌++◌, Option, Some, None, codes, decimal}
use Rattle.sym_base.specs.declared.kind.Exit.{Exit}
use Rattle.sym_base.specs.declared.kind.ExitKind.{ExitKind}
use Rattle.sym_base.specs.declared.kind.ExitKind.TheVariants.{Kill, Terminate, Panic}
use Rattle.sym_base.specs.declared.kind.Kind.{Kind}
use Rattle.sym_base.specs.declared.kind.Kind.TheVariants.{Process, Thread, Mutex, Semaphore, Server, Session}

-- a kind's word
unfoldable pub kind_text : Kind → List ℕ
kind_text Process = codes "process"
kind_text Thread = codes "thread"
kind_text Mutex = codes "mutex"
kind_text Semaphore = codes "semaphore"
kind_text Server = codes "server"
kind_text Session = codes "session"

-- a name, or `-` where there is none
unfoldable pub shown_name : List ℕ → List ℕ
shown_name [] = codes "-"
shown_name (byte ∷ bytes) = byte ∷ bytes

-- how a thread ended: the word, the category of a panic, and the reason
unfoldable pub exit_words : ExitKind → Exit → List (List ℕ)
exit_words Kill exit = codes "kill" ∷ signed_decimal exit.reason ∷ []
exit_words Terminate exit = codes "terminate" ∷ signed_decimal exit.reason ∷ []
exit_words Panic exit = codes "panic" ∷ exit.category ∷ signed_decimal exit.reason ∷ []

-- of a thread also whether it lives, or how it ended
unfoldable pub life_words : Kind → Option Exit → List (List ℕ)
life_words Thread None = codes "live" ∷ []
life_words Thread (Some exit) = exit_words exit.kind exit
life_words _ _ = []

-- the number, the kind, the name, the number of references, and of a thread its life
unfoldable pub final_words : FinalRow → List (List ℕ)
final_words row = decimal row.object.0 ∷ kind_text row.kind ∷ shown_name row.name ∷ decimal row.count ∷ life_words row.kind row.exit

-- a row's words with single spaces between them, and LF, as `3 thread h 1 live`
unfoldable pub final_line : FinalRow → List ℕ
final_line row = joined 32 (final_words row) ++ codes "\n"
