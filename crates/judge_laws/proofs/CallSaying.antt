-- What each call of a client may say of its port, and the line that this is.
use Rattle.std.proofs.Common.{◌≡◌, ◌<◌, ◌≤◌, ◌^◌, ℕ, List, Some, refl, arith, length}
use Rattle.std.specs.List.{AllByRecursion}
use Rattle.fab_script.specs.Ranges.{IsHost}
use Rattle.fabric_file.proofs.PlainWords.{number-any}
use Rattle.line_table.specs.Fits.{AreOf}
use Rattle.line_table.specs.Table.{form_of}
use Rattle.net_defs.specs.Network.{Network}
use Rattle.port_ledgers.specs.declared.lane.PortName.{PortName}
use Rattle.report_lines.specs.Lines.{kinds_in}
use Rattle.report_lines.specs.Meaning.{meaning}
use Rattle.report_lines.specs.declared.line.ReportLine.{ReportLine}
use Rattle.report_lines.specs.declared.line.ReportLine.TheVariants.{CallRefused, Opened, Closed, Provided, Accepted, Returned, Received, NothingCame}
use Rattle.run_defs.specs.LineRows.{line_kind, line_values}
use Rattle.run_defs.specs.LineText.{words_in}
use Rattle.run_defs.specs.declared.line.ClientCall.{ClientCall}
use Rattle.run_defs.specs.declared.line.ClientCall.TheVariants.{Begin, Close, Provide, Send, Poll, Tokens as TokensCall}
use Rattle.run_defs.specs.declared.line.Line.TheVariants.{Client}
use Rattle.world_defs.specs.declared.client.ClientCause.{ClientCause}
use Rattle.world_defs.specs.declared.client.ClientCause.TheVariants.{Already, NotOpen, NoToken, TooLong, NoRoute, Spent, BadSize, Busy, Unread, Filling}
use Rattle.world_defs.specs.declared.effect.Said.{Said}
use Rattle.world_defs.specs.declared.effect.Said.TheVariants.{Refused, Done, Count, Token, Sent, Nothing, Received as SaidReceived}
use Rattle.judge_laws.specs.Lines.{Says, IsToldApart, by_row, IsCounted}
use Rattle.judge_laws.proofs.Fits.{counted}

-- numbers of bytes
abbrev pub AreBytes : List ℕ → Type 0
AreBytes bs = AllByRecursion (λ b. b < 256) bs

-- The causes for which each call may be refused.
pub data MayRefuse : ClientCall → ClientCause → Type 0 where
  begin_already : MayRefuse Begin Already
  close_not_open : MayRefuse Close NotOpen
  close_busy : (count : ℕ) → MayRefuse Close (Busy count)
  close_unread : (count : ℕ) → MayRefuse Close (Unread count)
  close_filling : (count : ℕ) → MayRefuse Close (Filling count)
  provide_not_open : MayRefuse Provide NotOpen
  provide_no_token : MayRefuse Provide NoToken
  provide_bad_size : MayRefuse Provide BadSize
  send_not_open : MayRefuse Send NotOpen
  send_no_token : MayRefuse Send NoToken
  send_too_long : MayRefuse Send TooLong
  send_no_route : MayRefuse Send NoRoute
  send_spent : MayRefuse Send Spent
  poll_not_open : MayRefuse Poll NotOpen
  tokens_not_open : MayRefuse TokensCall NotOpen

-- What each call may say of its port, and the line that this is.
pub data CallSays (n : Network) (a : PortName) : ClientCall → Said → ReportLine → Type 0 where
  opened : CallSays n a Begin Done (Opened a)
  closed : (count : ℕ) → IsCounted count → CallSays n a Close (Count count) (Closed a count)
  provided : (token : ℕ) → IsCounted token → CallSays n a Provide (Token token) (Provided a token)
  accepted : (token : ℕ) → IsCounted token → CallSays n a Send (Token token) (Accepted a token)
  returned : (token : ℕ) → IsCounted token → CallSays n a Poll (Sent token) (Returned a token)
  received : (token from sport prio : ℕ) (body : List ℕ) → IsCounted token → IsHost n from → sport ≤ 7 → prio ≤ 1
      → IsCounted (length body) → AreBytes body
      → CallSays n a Poll (SaidReceived token from sport prio body) (Received (record {
        port = a;
        token = token;
        from = from;
        sport = sport;
        prio = prio;
        len = length body;
        body = body;
      }))
  nothing_came : CallSays n a Poll Nothing (NothingCame a)
  refused : (call : ClientCall) (cause : ClientCause) → MayRefuse call cause
      → CallSays n a call (Refused cause) (CallRefused call a)

module _ (n : Network) (h port : ℕ) (there : IsHost n h) (low : port ≤ 7) where
  abbrev at : port ≤ 7 × port < 2 ^ 64
  at = (low, omega arith)

  call-fits : (call : ClientCall) (said : Said) (r : ReportLine) → CallSays n (record { host = h; port = port }) call said r
      → AreOf n (form_of (line_kind (Client call h port said))) (line_values (Client call h port said))
  call-fits call said r opened = (refl, (there, (at, tt)))
  call-fits call said r (closed count fits) = (refl, (there, (at, (counted count fits, tt))))
  call-fits call said r (provided token fits) = (refl, (there, (at, (counted token fits, tt))))
  call-fits call said r (accepted token fits) = (refl, (there, (at, (counted token fits, tt))))
  call-fits call said r (returned token fits) = (refl, (there, (at, (counted token fits, tt))))
  call-fits call said r (received token from sport prio body fits sender one other long bytes) =
      (refl, (there, (at, (counted token fits, (sender, ((one, omega arith), ((other, omega arith), (counted _ long, (bytes, tt)))))))))
  call-fits call said r nothing_came = (refl, (there, (at, tt)))
  call-fits call said r (refused kind cause (close_busy count)) = (refl, (there, (at, (refl, (number-any count, tt)))))
  call-fits call said r (refused kind cause (close_unread count)) = (refl, (there, (at, (refl, (number-any count, tt)))))
  call-fits call said r (refused kind cause (close_filling count)) = (refl, (there, (at, (refl, (number-any count, tt)))))
  call-fits call said r (refused kind cause _) = (refl, (there, (at, (refl, tt))))

module _ (n : Network) (h port : ℕ) where
  abbrev port_of : PortName
  port_of = record { host = h; port = port }

  -- what a line of a call means, and that its kind is found
  abbrev IsCallRead : ClientCall → Said → ReportLine → Type 0
  IsCallRead call said r =
      IsToldApart (kinds_in (words_in n (Client call h port said))) (line_kind (Client call h port said))
      × (meaning (line_kind (Client call h port said)) (line_values (Client call h port said)) ≡ Some r)

  -- a refusal
  refused-read : {call : ClientCall} (cause : ClientCause) → MayRefuse call cause → IsCallRead call (Refused cause) (CallRefused call port_of)
  refused-read cause begin_already = (refl, refl)
  refused-read cause _ = (refl, refl)

  -- what a call says of its port
  call-read : (call : ClientCall) (said : Said) (r : ReportLine) → CallSays n port_of call said r → IsCallRead call said r
  call-read call said r (refused kind cause may) = refused-read cause may
  call-read call said r _ = (refl, refl)

-- a line of a call
pub call_line : {n : Network} (call : ClientCall) (h port : ℕ) (said : Said) (r : ReportLine) → IsHost n h → port ≤ 7
    → CallSays n (record { host = h; port = port }) call said r → Says n (Client call h port said) r
call_line {n = n} call h port said r there low c =
    let read = call-read n h port call said r c in
    by_row (Client call h port said) r (call-fits n h port there low call said r c) read.0 read.1
