-- Document 01, "Instructions": what the fields of an instruction must be.
-- Assumes nothing.
use Rattle.std.specs.Prelude.{Bool, false, not, ◌&&◌, ◌||◌, List, [], ◌∷◌, ℕ, ◌+◌, ◌*◌, eqb, ltb, get_or}
use Rattle.network.specs.declared.Instruction.{Instruction}

-- "op, a, b, c, one byte each": instruction i of a code
abbrev pub instruction_at : List ℕ → ℕ → Instruction
instruction_at code i =
    record { op = get_or code (4 * i) 0; a = get_or code (4 * i + 1) 0; b = get_or code (4 * i + 2) 0; c = get_or code (4 * i + 3) 0 }

-- "Registers are 0 to 7"
abbrev pub register : ℕ → Bool
register r = ltb r 8

-- "Unnamed fields are zero (else 7)"
abbrev pub unnamed : ℕ → Bool
unnamed f = eqb f 0

-- "Targets count within the process and lie below its count."
abbrev pub target : ℕ → ℕ → Bool
target count c = ltb c count

-- 3 to 7: "a becomes b with c"
abbrev pub three_registers : Instruction → Bool
three_registers i = register i.a && register i.b && register i.c

-- 9 and 10: "jump to c if a is .."
abbrev pub branches : ℕ → Instruction → Bool
branches count i = register i.a && unnamed i.b && target count i.c

-- The fields of an instruction of a process with so many instructions: the rules of the opcodes 0 to 13 in turn. `receives` and `sends` say of
-- channel b that it is there and that this process is its receiver, its sender: "A process receives only on channels into it, sends and closes
-- only on channels out of it." An opcode above 13 has no rule and is wrong.
unfoldable pub fields_right : ℕ → Bool → Bool → Instruction → Bool
fields_right count receives sends i =
    get_or (
    -- 0 stop
    (unnamed i.a && unnamed i.b && unnamed i.c)
    -- 1 set a to the number in b, c
    ∷ register i.a
    -- 2 copy b to a
    ∷ (register i.a && register i.b && unnamed i.c)
    -- 3 add, 4 subtract, 5 multiply, 6 divide, 7 remainder
    ∷ three_registers i
    ∷ three_registers i
    ∷ three_registers i
    ∷ three_registers i
    ∷ three_registers i
    -- 8 jump to c
    ∷ (unnamed i.a && unnamed i.b && target count i.c)
    -- 9 jump to c if a is zero, 10 if a is negative
    ∷ branches count i
    ∷ branches count i
    -- 11 receive into a from channel b, else go to c
    ∷ (register i.a && receives && target count i.c)
    -- 12 send a to channel b
    ∷ (register i.a && sends && unnamed i.c)
    -- 13 close channel b
    ∷ (unnamed i.a && sends && unnamed i.c)
    ∷ []
    ) i.op false

-- "The last instruction of a process is 0 or 8."
abbrev pub may_be_last : ℕ → Bool
may_be_last op = eqb op 0 || eqb op 8

-- an instruction is right where it stands, as the last of its process or not
unfoldable pub stands_right : Bool → ℕ → Bool → Bool → Instruction → Bool
stands_right last count receives sends i = fields_right count receives sends i && (not last || may_be_last i.op)
