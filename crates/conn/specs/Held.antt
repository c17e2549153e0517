-- What a connection holds in memory.
use Rattle.std.specs.Prelude.{◌≡◌, ℕ, ◌+◌, ◌≤◌, true, List, length, drop, vec_len, vec_capacity, Result, Ok, Err}
use Rattle.conn.specs.Message.{most_unfinished}
use Rattle.conn.specs.declared.buffer.Buffer.{Buffer}
use Rattle.conn.specs.declared.state.State.{State}
use Rattle.conn.specs.declared.state.State.TheVariants as state
use Rattle.conn.specs.declared.state.Advance.{Advance}
use Rattle.conn.specs.declared.state.Advance.TheVariants as advance
use Rattle.conn.specs.declared.next.Next.{Next}
use Rattle.conn.specs.declared.next.Next.TheVariants as next

-- the bytes that were not read yet
abbrev pub unread : Buffer → List ℕ
unread b = drop b.read b.bytes.items

-- how many bytes are held, read and not read
abbrev pub held : Buffer → ℕ
held b = vec_len b.bytes

-- for how many bytes memory is held
abbrev pub memory : Buffer → ℕ
memory b = vec_capacity b.bytes

-- so many bytes more can be held without memory
abbrev pub HasSpace : Buffer → ℕ → Type 0
HasSpace b more = held b + more ≤ memory b

-- nothing is read any more
abbrev pub IsOver : State → Type 0
IsOver state.AtHead = ⊥
IsOver (state.InBody b) = ⊥
IsOver state.Over = Unit {0}
IsOver state.Shut = Unit {0}

-- no byte is held, and no memory for bytes
abbrev pub HoldsNothing : Buffer → Type 0
HoldsNothing b = (held b ≡ 0) × (memory b ≡ 0)

-- what is held with an answer: where more bytes are needed the unfinished ones alone, which are few; where nothing is read any more, nothing
abbrev pub HoldsWith : Next → Buffer → Type 0
HoldsWith next.Need b = (held b ≡ length (unread b)) × (held b ≤ most_unfinished)
HoldsWith next.Continue b = Unit {0}
HoldsWith (next.Request r) b = r.close ≡ true → HoldsNothing b
HoldsWith (next.Refused r) b = HoldsNothing b
HoldsWith next.Closed b = HoldsNothing b

-- with an answer the unread bytes are few where more are needed, and the state says where nothing is read any more
abbrev pub LeavesWith : Next → List ℕ → State → Type 0
LeavesWith next.Need rest s = length rest ≤ most_unfinished
LeavesWith next.Continue rest s = Unit {0}
LeavesWith (next.Request r) rest s = r.close ≡ true → IsOver s
LeavesWith (next.Refused r) rest s = IsOver s
LeavesWith next.Closed rest s = IsOver s

-- a step without an answer is not the last; one with an answer leaves what that says
abbrev pub Leaves : {E : Type 0} → List ℕ → State → Result Advance E → Type 0
Leaves rest s (Ok (advance.Moved used)) = ¬ (IsOver s)
Leaves rest s (Ok (advance.Gives used n)) = LeavesWith n (drop used rest) s
Leaves rest s (Err e) = ¬ (IsOver s)
