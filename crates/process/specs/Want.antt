-- Document 01, "Instructions": what an instruction means to its process.
-- Assumes nothing.
use Rattle.std.specs.Prelude.{Bool, true, false, cond, List, [], ◌∷◌, ℕ, zero, suc, ◌+◌, ◌*◌, min, ltb, get_or, set, ℤ, pos, negsuc, ◌-ℤ◌}
use Rattle.network.specs.declared.Instruction.{Instruction}
use Rattle.arithmetic.specs.Wrap.{sum_of, difference_of, product_of}
use Rattle.arithmetic.specs.Quotient.{Quotient, value, faults, quotient_of, remainder_of}
use Rattle.process.specs.declared.Condition.{Condition}
use Rattle.process.specs.declared.Condition.TheVariants.{Live, Stopped, Faulted}
use Rattle.process.specs.Process.{Process}
use Rattle.process.specs.Intent.{Intent, idle, inner, receive, send, close, halt}

-- "Moves and accepted calls are 64-bit and stay at their largest."
abbrev pub counted : ℕ → ℕ
counted n = min (n + 1) 18446744073709551615

abbrev pub register_of : Process → ℕ → ℤ
register_of q r = get_or q.registers r (pos 0)

-- "moved .. adds one to moves": with these registers to this position, in this condition
abbrev pub moved : List ℤ → ℕ → Condition → Process → Process
moved registers position condition q = record { registers = registers; position = position; condition = condition; moves = counted q.moves }

-- to the next instruction
abbrev pub onward : List ℤ → Process → Process
onward registers q = moved registers (q.position + 1) q.condition q

-- register r becomes v, and on
abbrev pub assigned : ℕ → ℤ → Process → Process
assigned r v q = onward (set q.registers r v) q

-- to instruction c
abbrev pub jumped : ℕ → Process → Process
jumped c q = moved q.registers c q.condition q

-- "stop and a fault are moves too and keep the position"
abbrev pub stopped : Process → Process
stopped q = moved q.registers q.position Stopped q

abbrev pub faulted : Process → Process
faulted q = moved q.registers q.position Faulted q

-- "the signed 16-bit number in b, c"
abbrev pub signed16 : ℕ → ℕ → ℤ
signed16 b c = cond (ltb (256 * b + c) 32768) (pos (256 * b + c)) (pos (256 * b + c) -ℤ pos 65536)

abbrev pub is_null : ℤ → Bool
is_null (pos zero) = true
is_null (pos (suc n)) = false
is_null (negsuc n) = false

abbrev pub is_negative : ℤ → Bool
is_negative (pos n) = false
is_negative (negsuc n) = true

-- a quotient or remainder into register a: "A zero divisor faults."
abbrev pub divided : ℕ → Quotient → Process → Intent Process ℤ
divided a (value v) q = inner (assigned a v q)
divided a faults q = halt (faulted q)

-- to c if the test holds, else on
abbrev pub branched : Bool → ℕ → Process → Intent Process ℤ
branched t c q = inner (cond t (jumped c q) (onward q.registers q))

-- the opcodes 0 to 13 in turn; no other passes the file's rules, and it would fault
unfoldable pub want_live : Instruction → Process → Intent Process ℤ
want_live i q =
    get_or (
    -- 0 stop
    halt (stopped q)
    -- 1 set a to the signed 16-bit number in b, c
    ∷ inner (assigned i.a (signed16 i.b i.c) q)
    -- 2 copy b to a
    ∷ inner (assigned i.a (register_of q i.b) q)
    -- 3 add, 4 subtract, 5 multiply: a becomes b with c
    ∷ inner (assigned i.a (sum_of (register_of q i.b) (register_of q i.c)) q)
    ∷ inner (assigned i.a (difference_of (register_of q i.b) (register_of q i.c)) q)
    ∷ inner (assigned i.a (product_of (register_of q i.b) (register_of q i.c)) q)
    -- 6 divide, 7 remainder
    ∷ divided i.a (quotient_of (register_of q i.b) (register_of q i.c)) q
    ∷ divided i.a (remainder_of (register_of q i.b) (register_of q i.c)) q
    -- 8 jump to c
    ∷ inner (jumped i.c q)
    -- 9 jump to c if a is zero, 10 if a is negative
    ∷ branched (is_null (register_of q i.a)) i.c q
    ∷ branched (is_negative (register_of q i.a)) i.c q
    -- 11 receive into a from channel b: the oldest message; empty and closed: a is kept, go to c
    ∷ receive i.b (λ v. assigned i.a v q) (jumped i.c q)
    -- 12 send a to channel b
    ∷ send i.b (register_of q i.a) (onward q.registers q) (faulted q)
    -- 13 close channel b
    ∷ close i.b (onward q.registers q) (faulted q)
    ∷ []
    ) i.op (halt (faulted q))

abbrev pub want_in : Condition → Instruction → Process → Intent Process ℤ
want_in Live i q = want_live i q
want_in Stopped i q = idle
want_in Faulted i q = idle

-- what a process wants, standing at an instruction
unfoldable pub want : Instruction → Process → Intent Process ℤ
want i q = want_in q.condition i q
