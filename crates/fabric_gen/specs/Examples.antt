-- The text of two hosts, for a worked example.
use Rattle.std.specs.Prelude.{ℕ, List, codes}

-- the fabric and the lines that map it and install its routes
abbrev pub two_hosts_mapped : List ℕ
two_hosts_mapped = codes "host h0\nhost h1\nswitch s0 8\nswitch s1 8\ncable s0 0 s1 1\ncable h0 0 s0 2\ncable h1 0 s1 2\nscript\nmap h0 5 1\nroutes\ninstall 1\n"

-- the clients' calls, and the end
abbrev pub two_hosts_called : List ℕ
two_hosts_called = codes "open h0 0 4 0\nopen h0 1 0 4\nopen h1 0 4 0\nopen h1 1 0 4\nprovide h1 1 4 0\nsend h0 0 h1 1 0 0 0\nprovide h1 1 4 1\nsend h0 0 h1 1 1 1 1\nprovide h1 1 4 0\nsend h0 0 h1 1 0 2 2\nprovide h1 1 4 1\nsend h0 0 h1 1 1 3 3\nprovide h0 1 4 0\nsend h1 0 h0 1 0 7 1\nprovide h0 1 4 1\nsend h1 0 h0 1 1 8 2\nprovide h0 1 5 0\nsend h1 0 h0 1 0 9 3\nprovide h0 1 5 1\nsend h1 0 h0 1 1 10 4\nplan lose 1\nplan hold 2\nplan repeat 3\nsettle\npoll h0 1\npoll h0 1\npoll h0 1\npoll h0 1\npoll h1 1\npoll h1 1\npoll h1 1\npoll h1 1\nend\n"
