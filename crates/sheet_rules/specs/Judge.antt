-- The judge of a sheet: a left fold over its records, begin, step and end (01, "The sheet"; the places under "Numbers that a call returns").
-- Each test is a rule of the paper; specs/Sentences.antt says the same rules without a state.
--
--   begin     the state before the first record
--   keeps     the record, with those before it, breaks no rule
--   after     the state after a record
--   step_of    one record: the next state, or stop
--   end_of     the end: good with its counts, or a fault where the next record was due
--   run       the fold over records; walk: the same, counted and ended
--   judge     all records, then the end; a record at which the fold stops is the record at fault
--   judge_of   the judge of a sheet's octets; sheet_answer: its answer in the paper's table
use Rattle.std.specs.Prelude.{ℕ, ◌+◌, ◌-◌, ◌%◌, Bool, false, ◌&&◌, ◌||◌, not, cond, List, [], ◌∷◌, leb, ltb, eqb, Option, Some, None, Result, Ok, Err}
use Rattle.answers.specs.Answers.{Answer}
use Rattle.answers.specs.declared.Refusal.TheVariants.{BadSheet}
use Rattle.sheet_rules.specs.declared.Record.{Record}
use Rattle.sheet_rules.specs.declared.State.{State}
use Rattle.sheet_rules.specs.declared.Counts.{Counts}
use Rattle.sheet_rules.specs.Record.{is_grey, records, rest}

-- ---- the tests, in the paper's order

-- octets 26 and 27 are 0
abbrev pub zeros_ok : Record → Bool
zeros_ok r = eqb r.octets26 0

-- octet 17 is 0, or 1 in an image layer of coder 1; such a layer is coded, since data_ok gives one that is not the coder 0
abbrev pub grey_ok : Record → Bool
grey_ok r = eqb r.octet17 0 || is_grey r && eqb (r.layer % 2) 1 && eqb r.coder 1

-- a stripe may stop after this layer: N is odd and at least 3 (that it is at most 15, next_layer says)
abbrev pub closes : ℕ → Bool
closes l = eqb (l % 2) 1 && leb 3 l

-- the record is the next layer of its stripe; the first of all is layer 1 of stripe 0
abbrev pub next_layer : State → Record → Bool
next_layer st r = eqb r.stripe st.stripe && eqb r.layer (st.layer + 1) && leb r.layer 15

-- the record is layer 1 of the next stripe
abbrev pub next_stripe : State → Record → Bool
next_stripe st r = eqb r.stripe (st.stripe + 1) && ltb r.stripe 64 && eqb r.layer 1 && closes st.layer

abbrev pub placed : State → Record → Bool
placed st r = next_layer st r || next_stripe st r

-- a layer is coded when its length is not 0
abbrev pub coded : Record → Bool
coded r = not (eqb r.len 0)

-- 1, 2, 4 or 8 for even layers, 1 for odd
abbrev pub coder_ok : ℕ → ℕ → Bool
coder_ok layer coder = eqb coder 1 || eqb (layer % 2) 0 && (eqb coder 2 || eqb coder 4 || eqb coder 8)

abbrev pub coded_ok : Record → Bool
coded_ok r =
    coder_ok r.layer r.coder && not (eqb r.width 0) && not (eqb r.height 0) && ltb (r.start + r.len) 4294967296

-- layer 2 is the exception: it has the page's width and the stripe's height also where it is not coded
abbrev pub uncoded_ok : Record → Bool
uncoded_ok r =
    eqb r.coder 0 && eqb r.start 0
    && (eqb r.layer 2 || eqb r.x 0 && eqb r.y 0 && eqb r.width 0 && eqb r.height 0)

abbrev pub data_ok : Record → Bool
data_ok r = coded r && coded_ok r || not (coded r) && uncoded_ok r

-- one of the six resolutions
abbrev pub listed : ℕ → Bool
listed r = eqb r 100 || eqb r 200 || eqb r 300 || eqb r 400 || eqb r 600 || eqb r 1200

-- a divides b, and is not 0
abbrev pub divides : ℕ → ℕ → Bool
divides a b = cond (eqb a 0) false (eqb (b % a) 0)

-- a layer's resolution against the main one: it divides it, and is the main one where the layer is not coded
abbrev pub res_ok : Bool → ℕ → ℕ → Bool
res_ok is_coded res main = divides res main && (is_coded || eqb res main)

-- no colour in an even layer
abbrev pub base_ok : Record → Bool
base_ok r = eqb (r.layer % 2) 1 || eqb r.base0 0 && eqb r.base1 0 && eqb r.base2 0

-- layer 2: no offset, the page's bounds, the heights' sum, the same width and resolution in all stripes, and layer 1's resolution
abbrev pub page_ok : State → Record → Bool
page_ok st r =
    eqb r.x 0 && eqb r.y 0 && leb 1 r.width && leb r.width 32768 && leb 1 r.height && leb r.height st.left
    && (eqb r.stripe 0 || eqb r.width st.width && eqb r.res st.main)
    && res_ok st.coded1 st.res1 r.res

-- at least one of layers 1 to 3 is coded, and 1 and 3 are not both coded without 2
abbrev pub choice_ok : Bool → Bool → Bool → Bool
choice_ok a b c = (a || b || c) && (b || not (a && c))

-- layers from 3 on: the resolution, and at 3 the choice of coded layers
abbrev pub upper_ok : State → Record → Bool
upper_ok st r = res_ok (coded r) r.res st.main && (not (eqb r.layer 3) || choice_ok st.coded1 st.coded2 (coded r))

-- what is judged by the layer's number; layer 1's resolution is matched at layer 2
abbrev pub layer_ok : State → Record → Bool
layer_ok st r = eqb r.layer 1 || eqb r.layer 2 && page_ok st r || leb 3 r.layer && upper_ok st r

unfoldable pub keeps : State → Record → Bool
keeps st r = zeros_ok r && grey_ok r && placed st r && data_ok r && listed r.res && base_ok r && layer_ok st r

-- ---- the fold

abbrev pub begin : State
begin =
    record { stripe = 0; layer = 0; coded1 = false; coded2 = false; res1 = 0; main = 0; width = 0; left = 65535 }

-- the state after a record of layer 1, of layer 2 and of a higher layer
unfoldable pub after1 : State → Record → State
after1 st r =
    record {
      stripe = r.stripe;
      layer = r.layer;
      coded1 = coded r;
      coded2 = false;
      res1 = r.res;
      main = st.main;
      width = st.width;
      left = st.left;
    }

unfoldable pub after2 : State → Record → State
after2 st r =
    record {
      stripe = r.stripe;
      layer = r.layer;
      coded1 = st.coded1;
      coded2 = coded r;
      res1 = st.res1;
      main = r.res;
      width = r.width;
      left = st.left - r.height;
    }

unfoldable pub after3 : State → Record → State
after3 st r =
    record {
      stripe = r.stripe;
      layer = r.layer;
      coded1 = st.coded1;
      coded2 = st.coded2;
      res1 = st.res1;
      main = st.main;
      width = st.width;
      left = st.left;
    }

unfoldable pub after : State → Record → State
after st r = cond (eqb r.layer 1) (after1 st r) (cond (eqb r.layer 2) (after2 st r) (after3 st r))

unfoldable pub step_of : State → Record → Option State
step_of st r = cond (keeps st r) (Some (after st r)) None

-- after n records, with so many octets of a part record left
unfoldable pub end_of : State → ℕ → ℕ → Result Counts ℕ
end_of st n part = cond (closes st.layer && eqb part 0) (Ok (record { records = n; stripes = st.stripe + 1 })) (Err n)

-- what comes of a step: one thing where it stops, another from the next state
unfoldable pub on_step : {A : Type 0} → Option State → A → (State → A) → A
on_step (Some st) stop go = go st
on_step None stop go = stop

-- the fold from a state on, and the same with the records counted and the end judged
unfoldable pub run : State → List Record → Option State
unfolding on_step
run st [] = Some st
run st (r ∷ rs) = on_step (step_of st r) None (λ (t : State). run t rs)

unfoldable pub walk : State → ℕ → List Record → ℕ → Result Counts ℕ
unfolding on_step
walk st i [] part = end_of st i part
walk st i (r ∷ rs) part = on_step (step_of st r) (Err i) (λ (t : State). walk t (i + 1) rs part)

unfoldable pub judge : List Record → ℕ → Result Counts ℕ
unfolding walk
judge rs part = walk begin 0 rs part

unfoldable pub judge_of : List ℕ → Result Counts ℕ
unfolding judge records
judge_of s = judge (records s) (rest s)

-- the judge's answer in the paper's table: Done with the number of records, or BadSheet at the record at fault
unfoldable pub answer_of : Result Counts ℕ → Answer
answer_of (Ok c) = Ok c.records
answer_of (Err i) = Err (BadSheet i)

unfoldable pub sheet_answer : List ℕ → Answer
unfolding answer_of judge_of
sheet_answer s = answer_of (judge_of s)
